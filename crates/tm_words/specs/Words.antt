-- How the words of a call part into the options that they give and the names beside them.
use Rattle.std.specs.Prelude.{ℕ, Bool, false, not, ◌==◌, nat_lt, if◌then◌else◌, List, [], ◌∷◌, map, length, position, remove, slice_get, bytes_eq, String, string_bytes, Option, Some, None, option_and_then, option_map}
use Rattle.std.specs.Option.{option_map_or}
use Rattle.std.specs.List.{before_first, after_first, position_or_len}
use Rattle.std.specs.declared.alloc.Global.{Global}
use Rattle.tm_words.specs.declared.word.Word.{Word}
use Rattle.tm_words.specs.declared.word.Word.TheVariants as word
use Rattle.tm_words.specs.declared.parts.Given.{Given}

-- the bytes of each word
abbrev pub texts : List (String Global) → List (List ℕ)
texts words = map string_bytes words

-- a name is not empty, and does not begin with a dash
abbrev pub is_name : List ℕ → Bool
is_name [] = false
is_name (first ∷ rest) = not (first == 45)

-- the sign between an option and its value
abbrev pub is_equals : ℕ → Bool
is_equals c = c == 61

-- a word with a sign `=` in it, which is no name: an option with its value
abbrev pub with_value : List ℕ → Word
with_value text = if is_name (after_first is_equals text) then word.Joined (before_first is_equals text) (after_first is_equals text) else word.Refused

-- what a word is by itself: a name or a value; an option with its value behind the first `=`; or an option alone
unfoldable pub word_of : List ℕ → Word
word_of text =
    if is_name text then word.Plain text
    else if nat_lt (position_or_len is_equals text) (length text) then with_value text
    else word.Alone text

-- what words say: the options with their values, and the names, each in their order
pub record Parts : Type 0 where
  pub given : List Given
  pub names : List (List ℕ)

abbrev pub with_name : List ℕ → Parts → Parts
with_name name parts = record { given = parts.given; names = name ∷ parts.names }

abbrev pub with_option : List ℕ → List ℕ → Parts → Parts
with_option option value parts = record { given = record { option = option; value = value } ∷ parts.given; names = parts.names }

-- the parts of words: an option that stands alone has the next word as its value, which no other option can be
abbrev pub parted : List Word → Option Parts
parted [] = Some (record { given = []; names = [] })
parted (word.Plain name ∷ words) = option_map (with_name name) (parted words)
parted (word.Joined option value ∷ words) = option_map (with_option option value) (parted words)
parted (word.Alone option ∷ word.Plain value ∷ words) = option_map (with_option option value) (parted words)
parted _ = None

-- the place of an option among those given
abbrev pub place_of : List ℕ → List Given → Option ℕ
place_of option given = position (λ g. bytes_eq g.option option) given

-- the value of an option, where it is given
abbrev pub value_of : List ℕ → List Given → Option (List ℕ)
value_of option given = option_map (λ g. g.value) (option_and_then (slice_get given) (place_of option given))

-- what is given beside that
abbrev pub without : List ℕ → List Given → List Given
without option given = option_map_or (λ place. remove given place) (place_of option given) given

-- the value of each of these options, where they are all that is given, and none is given twice
abbrev pub values_in : List (List ℕ) → List Given → Option (List (Option (List ℕ)))
values_in [] [] = Some []
values_in [] (other ∷ more) = None
values_in (option ∷ options) given = option_map (λ values. value_of option given ∷ values) (values_in options (without option given))
