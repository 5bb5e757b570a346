-- How far the words have been scanned, and when no words behind can make a form of them.
use Rattle.std.specs.Prelude.{ℕ, ◌<◌, ◌⊎◌, List, ◌∷◌, ◌++◌, length, Option, Some, None, IfSome, option_map}
use Rattle.tm_words.specs.declared.word.Word.{Word}
use Rattle.tm_words.specs.declared.word.Word.TheVariants as word
use Rattle.tm_words.specs.declared.parts.Scan.{Scan}
use Rattle.tm_words.specs.Words.{Parts, parted}

-- parts behind others
abbrev pub joined : Parts → Parts → Parts
joined before behind = record { given = before.given ++ behind.given; names = before.names ++ behind.names }

-- the words to come, behind an option that waits for its value
abbrev pub awaited : Option (List ℕ) → List Word → List Word
awaited None words = words
awaited (Some option) words = word.Alone option ∷ words

-- the parts of all words, where these are still to come
abbrev pub onto : Scan → List Word → Option Parts
onto scan words = option_map (joined scan.parts) (parted (awaited scan.waiting words))

-- more options or names than any command has
abbrev pub IsSurplus : Parts → Type 0
IsSurplus parts = (4 < length parts.given) ⊎ (4 < length parts.names)

-- no parts, or more than any command has
abbrev pub IsRefused : Option Parts → Type 0
IsRefused parts = IfSome parts IsSurplus
