use Rattle.std.proofs.Common.{◌≡◌, Some, slice_get, ap, sym, ◌∙◌, arith, refl}
use Rattle.std.specs.Prelude.{option_map, option_and_then, slice_index}
use Rattle.std.proofs.lemmas.Option.{slice_get_read}
use Rattle.tm_text.specs.Views.{leave_of}
use Rattle.tm_text.proofs.Stops.{stop_in, told_left, stop_at, written_more}
use Rattle.tm_text.proofs.replay.stop_of.Goals as goal

pub returns-then-stop-seq-clause-stop : goal.returns-then-stop-seq-clause-stop
returns-then-stop-seq-clause-stop c =
    let track : slice_get c.args.tracks.now c.args.entry.now.from ≡ Some c.index-tracks-from.result =
    ap (slice_get c.args.tracks.now) (sym c.from-from.ensures) ∙ slice_get_read c.args.tracks.now _ c.from-from.result c.index-tracks-from.result refl (omega arith) c.index-tracks-from.is in
    let stops : c.as_slice-stops.result.now ≡ c.index-tracks-from.result.stops =
    c.as_slice-stops.ensures ∙ ap (λ t. t.stops) (sym c.index-tracks-from.is) in
    let own : slice_get c.args.tracks.now c.from-from.result ≡ Some c.index-tracks-from.result =
    slice_get_read c.args.tracks.now _ c.from-from.result c.index-tracks-from.result refl (omega arith) c.index-tracks-from.is in
    let there : slice_get c.index-tracks-from.result.stops (slice_index c.args.places.now c.from-from.result) ≡ Some c.index-stops-place.result =
    ap (λ l. slice_get l (slice_index c.args.places.now c.from-from.result)) (sym stops)
    ∙ slice_get_read c.as_slice-stops.result.now _ (slice_index c.args.places.now c.from-from.result) c.index-stops-place.result refl (omega arith) c.index-stops-place.is in
    sym (ap (option_map leave_of)
    (stop_at c.args.seq (slice_index c.args.places.now c.from-from.result) c.index-tracks-from.result.stops c.index-stops-place.result
    (c.requires.written c.from-from.result c.index-tracks-from.result own) there c.if-stop-seq.true))
    ∙ ap (λ o. option_map leave_of (option_and_then (λ t. stop_in c.args.seq t.stops) o)) (sym track)
    ∙ sym (told_left c.args.tracks.now c.args.seq c.args.entry.now)

pub returns-then-stop-seq-clause-written : goal.returns-then-stop-seq-clause-written
returns-then-stop-seq-clause-written c =
    let own : slice_get c.args.tracks.now c.from-from.result ≡ Some c.index-tracks-from.result =
    slice_get_read c.args.tracks.now _ c.from-from.result c.index-tracks-from.result refl (omega arith) c.index-tracks-from.is in
    let stops : c.as_slice-stops.result.now ≡ c.index-tracks-from.result.stops =
    c.as_slice-stops.ensures ∙ ap (λ t. t.stops) (sym c.index-tracks-from.is) in
    let there : slice_get c.index-tracks-from.result.stops (slice_index c.args.places.now c.from-from.result) ≡ Some c.index-stops-place.result =
    ap (λ l. slice_get l (slice_index c.args.places.now c.from-from.result)) (sym stops)
    ∙ slice_get_read c.as_slice-stops.result.now _ (slice_index c.args.places.now c.from-from.result) c.index-stops-place.result refl (omega arith) c.index-stops-place.is in
    written_more c.args.tracks.now c.args.places.now c.args.seq c.from-from.result _ c.index-tracks-from.result c.index-stops-place.result
    c.requires.written own (omega arith) refl there c.if-stop-seq.true

pub returns-clause-stop : goal.returns-clause-stop
returns-clause-stop c =
    let track : slice_get c.args.tracks.now c.args.entry.now.from ≡ Some c.index-tracks-from.result =
    ap (slice_get c.args.tracks.now) (sym c.from-from.ensures) ∙ slice_get_read c.args.tracks.now _ c.from-from.result c.index-tracks-from.result refl (omega arith) c.index-tracks-from.is in
    ap (option_map leave_of)
    (c.find_stop.ensures ∙ ap (stop_in c.args.seq) (c.as_slice-stops.ensures ∙ ap (λ t. t.stops) (sym c.index-tracks-from.is)))
    ∙ ap (λ o. option_map leave_of (option_and_then (λ t. stop_in c.args.seq t.stops) o)) (sym track)
    ∙ sym (told_left c.args.tracks.now c.args.seq c.args.entry.now)
