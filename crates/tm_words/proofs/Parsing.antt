-- Each parser takes the words that it is handed, whatever their texts, and gives the texts back.
use Rattle.std.proofs.Common.{◌≡◌, ◌∙◌, ℕ, true, List, Option, Some, None, refl, sym, subst, ap}
use Rattle.std.specs.Prelude.{IsSome, codes}
use Rattle.clap.specs.Words.{App, first_of, matches_of, takes}
use Rattle.clap.proofs.OnLiterals.{clap_on_literals}
use Rattle.tm_words.specs.Parsers.{trace_parser, trace_words, record_parser, record_words, live_parser, live_words, points_parser, points_words, replay_parser, replay_words, make_parser, make_words, load_parser, load_words}

-- what the parser tells of a text, where it is the parser that was meant
pub told : {app wanted : App} {value : List ℕ} {found : Option (List ℕ)} (words : List (List ℕ)) (name : List ℕ) → app ≡ wanted →
    found ≡ first_of name (matches_of app words) → first_of name (matches_of wanted words) ≡ Some value → found ≡ Some value
told words name same is given = is ∙ ap (λ a. first_of name (matches_of a words)) same ∙ given

pub there : {found : Option (List ℕ)} {value : List ℕ} → found ≡ Some value → IsSome found
there is = subst (λ (o : Option (List ℕ)). IsSome o) (sym is) refl

pub same_text : {text value : List ℕ} {found : Option (List ℕ)} → Some text ≡ found → found ≡ Some value → text ≡ value
same_text is given = let both = is ∙ given in cc

pub trace_taken : (image plan : List ℕ) → takes trace_parser (trace_words image plan) ≡ true
unfolding clap_on_literals
trace_taken image plan = refl

pub trace_image : (image plan : List ℕ) → first_of (codes "image") (matches_of trace_parser (trace_words image plan)) ≡ Some image
unfolding clap_on_literals
trace_image image plan = refl

pub trace_plan : (image plan : List ℕ) → first_of (codes "plan") (matches_of trace_parser (trace_words image plan)) ≡ Some plan
unfolding clap_on_literals
trace_plan image plan = refl

pub record_taken : (image plan dump : List ℕ) → takes record_parser (record_words image plan dump) ≡ true
unfolding clap_on_literals
record_taken image plan dump = refl

pub record_image : (image plan dump : List ℕ) → first_of (codes "image") (matches_of record_parser (record_words image plan dump)) ≡ Some image
unfolding clap_on_literals
record_image image plan dump = refl

pub record_plan : (image plan dump : List ℕ) → first_of (codes "plan") (matches_of record_parser (record_words image plan dump)) ≡ Some plan
unfolding clap_on_literals
record_plan image plan dump = refl

pub record_dump : (image plan dump : List ℕ) → first_of (codes "dump") (matches_of record_parser (record_words image plan dump)) ≡ Some dump
unfolding clap_on_literals
record_dump image plan dump = refl

-- a run beside devices, with a tape and without one
pub live_taken : (image plant dump slices len : List ℕ) (tape : Option (List ℕ)) → takes live_parser (live_words image plant dump slices len tape) ≡ true
unfolding clap_on_literals
live_taken image plant dump slices len None = refl
live_taken image plant dump slices len (Some tape) = refl

pub live_image : (image plant dump slices len : List ℕ) (tape : Option (List ℕ)) → first_of (codes "image") (matches_of live_parser (live_words image plant dump slices len tape)) ≡ Some image
unfolding clap_on_literals
live_image image plant dump slices len None = refl
live_image image plant dump slices len (Some tape) = refl

pub live_plant : (image plant dump slices len : List ℕ) (tape : Option (List ℕ)) → first_of (codes "plant") (matches_of live_parser (live_words image plant dump slices len tape)) ≡ Some plant
unfolding clap_on_literals
live_plant image plant dump slices len None = refl
live_plant image plant dump slices len (Some tape) = refl

pub live_dump : (image plant dump slices len : List ℕ) (tape : Option (List ℕ)) → first_of (codes "dump") (matches_of live_parser (live_words image plant dump slices len tape)) ≡ Some dump
unfolding clap_on_literals
live_dump image plant dump slices len None = refl
live_dump image plant dump slices len (Some tape) = refl

pub live_slices : (image plant dump slices len : List ℕ) (tape : Option (List ℕ)) → first_of (codes "slices") (matches_of live_parser (live_words image plant dump slices len tape)) ≡ Some slices
unfolding clap_on_literals
live_slices image plant dump slices len None = refl
live_slices image plant dump slices len (Some tape) = refl

pub live_len : (image plant dump slices len : List ℕ) (tape : Option (List ℕ)) → first_of (codes "len") (matches_of live_parser (live_words image plant dump slices len tape)) ≡ Some len
unfolding clap_on_literals
live_len image plant dump slices len None = refl
live_len image plant dump slices len (Some tape) = refl

pub live_tape : (image plant dump slices len : List ℕ) (tape : Option (List ℕ)) → first_of (codes "tape") (matches_of live_parser (live_words image plant dump slices len tape)) ≡ tape
unfolding clap_on_literals
live_tape image plant dump slices len None = refl
live_tape image plant dump slices len (Some tape) = refl

pub points_taken : (image dump : List ℕ) → takes points_parser (points_words image dump) ≡ true
unfolding clap_on_literals
points_taken image dump = refl

pub points_image : (image dump : List ℕ) → first_of (codes "image") (matches_of points_parser (points_words image dump)) ≡ Some image
unfolding clap_on_literals
points_image image dump = refl

pub points_dump : (image dump : List ℕ) → first_of (codes "dump") (matches_of points_parser (points_words image dump)) ≡ Some dump
unfolding clap_on_literals
points_dump image dump = refl

pub replay_taken : (image dump from workers : List ℕ) → takes replay_parser (replay_words image dump from workers) ≡ true
unfolding clap_on_literals
replay_taken image dump from workers = refl

pub replay_image : (image dump from workers : List ℕ) → first_of (codes "image") (matches_of replay_parser (replay_words image dump from workers)) ≡ Some image
unfolding clap_on_literals
replay_image image dump from workers = refl

pub replay_dump : (image dump from workers : List ℕ) → first_of (codes "dump") (matches_of replay_parser (replay_words image dump from workers)) ≡ Some dump
unfolding clap_on_literals
replay_dump image dump from workers = refl

pub replay_from : (image dump from workers : List ℕ) → first_of (codes "from") (matches_of replay_parser (replay_words image dump from workers)) ≡ Some from
unfolding clap_on_literals
replay_from image dump from workers = refl

pub replay_workers : (image dump from workers : List ℕ) → first_of (codes "workers") (matches_of replay_parser (replay_words image dump from workers)) ≡ Some workers
unfolding clap_on_literals
replay_workers image dump from workers = refl

pub make_taken : (number : List ℕ) → takes make_parser (make_words number) ≡ true
unfolding clap_on_literals
make_taken number = refl

pub make_number : (number : List ℕ) → first_of (codes "number") (matches_of make_parser (make_words number)) ≡ Some number
unfolding clap_on_literals
make_number number = refl

pub load_taken : (image task executable new : List ℕ) → takes load_parser (load_words image task executable new) ≡ true
unfolding clap_on_literals
load_taken image task executable new = refl

pub load_image : (image task executable new : List ℕ) → first_of (codes "image") (matches_of load_parser (load_words image task executable new)) ≡ Some image
unfolding clap_on_literals
load_image image task executable new = refl

pub load_task : (image task executable new : List ℕ) → first_of (codes "task") (matches_of load_parser (load_words image task executable new)) ≡ Some task
unfolding clap_on_literals
load_task image task executable new = refl

pub load_executable : (image task executable new : List ℕ) → first_of (codes "executable") (matches_of load_parser (load_words image task executable new)) ≡ Some executable
unfolding clap_on_literals
load_executable image task executable new = refl

pub load_new : (image task executable new : List ℕ) → first_of (codes "new") (matches_of load_parser (load_words image task executable new)) ≡ Some new
unfolding clap_on_literals
load_new image task executable new = refl
