use Rattle.std.proofs.Common.{◌≡◌, ◌+◌, ◌<◌, Some, Err, Ok, length, slice_get, ap, sym, subst, ◌∙◌, refl}
use Rattle.std.specs.Prelude.{unwrap_or}
use Rattle.std.proofs.lemmas.Option.{slice_get_within}
use Rattle.std.proofs.lemmas.Result.{err_from_is_err_and}
use Rattle.tm_marker.specs.declared.entries.Switch.{Switch}
use Rattle.tm_marker.specs.declared.tail.Tail.{Tail}
use Rattle.tm_ring.specs.Kept.{Kept}
use Rattle.tm_image.specs.Image.{shape_of}
use Rattle.tm_log.specs.Points.{tail_marker}
use Rattle.tm_log.specs.Window.{zero_marker}
use Rattle.tm_system.specs.Alone.{Alone}
use Rattle.tm_system.specs.Tracing.{On, meet}
use Rattle.tm_task.specs.Place.{Place, start_place}
use Rattle.tm_replay.specs.Meeting.{tracing_of}
use Rattle.tm_replay.specs.Starting.{check_at}
use Rattle.tm_replay.specs.Walking.{alone_of, Reached}
use Rattle.tm_replay.proofs.Starts.{start_kept}
use Rattle.tm_replay.proofs.Replays.{task_kept, entries_kept, start_epoch, last_epoch, leaves_below, by_walker, tells_start, tells_entries, tells_end, on_end, began, entries_met, end_met, end_told, entries_of, end_of}
use Rattle.tm_replay.proofs.task.replay_accepted.Goals as goal

pub walker_at-requires-clause-kept : goal.walker_at-requires-clause-kept
walker_at-requires-clause-kept c =
    task_kept c.args.window.now c.args.point c.args.task c.marker_at-start.result c.requires.accepted c.requires.task c.marker_at-start.ensures

pub reach-requires-clause-epoch : goal.reach-requires-clause-epoch
reach-requires-clause-epoch c =
    let none = task_kept c.args.window.now c.args.point c.args.task c.marker_at-start.result c.requires.accepted c.requires.task c.marker_at-start.ensures in
    start_epoch c.args.window.now (shape_of c.args.image.now) c.args.task c.marker_at-start.result.epoch c.requires.formed c.requires.task
    (start_kept c.args.window.now (shape_of c.args.image.now) c.args.task c.marker_at-start.result.epoch c.requires.formed c.requires.task none)

pub meet_entries-requires-clause-kept : goal.meet_entries-requires-clause-kept
meet_entries-requires-clause-kept c = entries_kept c.args.window.now c.args.point c.control.result.now c.requires.accepted c.control.ensures

pub meet_entries-requires-clause-epochs : goal.meet_entries-requires-clause-epochs
meet_entries-requires-clause-epochs c =
    leaves_below c.args.window.now (shape_of c.args.image.now) c.args.task _ c.control.result.now c.requires.formed c.requires.task
    (ap (λ (a : Alone). a.task) (c.in_ok-tracer.ensures.same ∙ c.in_ok-reach.ensures.same) ∙ c.in_ok-walker.ensures.number) c.control.ensures

pub at-last-requires : goal.at-last-requires
at-last-requires c =
    let well = c.requires.formed.tasks c.args.task c.requires.task in
    let inside : c.args.task < length c.args.window.now.tail.at = slice_get_within c.args.window.now.tail.at c.args.task well.at well.at_is in
    rw (c.from.ensures, c.tail-tail.ensures) inside

pub meet_last-requires-clause-epoch : goal.meet_last-requires-clause-epoch
meet_last-requires-clause-epoch c =
    let there : slice_get c.args.window.now.tail.at c.args.task ≡ Some c.at-last.result =
    ap (λ (t : Tail). slice_get t.at c.args.task) (sym c.tail-tail.ensures) ∙ ap (slice_get c.tail-tail.result.now.at) (sym c.from.ensures) ∙ c.at-last.ensures in
    last_epoch c.args.window.now (shape_of c.args.image.now) c.args.task c.at-last.result c.requires.formed c.requires.task there

pub returns-in_err-reach : goal.returns-in_err-reach
returns-in_err-reach c =
    let p = err_from_is_err_and c.from_residual-in_err-reach.result c.from_residual-in_err-reach.ensures.1 in
    rw (p.1, p.2)
    (tells_start (alone_of c.in_ok-walker.walker) c.args.point c.args.window.now.control c.args.window.now.tail.running c.marker_at-start.result
    (tail_marker c.args.window.now c.args.task)
    (start_place (check_at c.args.window.now c.args.task c.marker_at-start.result.epoch).body c.marker_at-start.result.epoch) _ c.in_err-reach.field-0.0 c.reach.new.self
    (by_walker c.args.image.now c.args.window.now c.args.point c.args.task c.marker_at-start.result c.in_ok-walker.walker c.in_ok-walker.ensures c.marker_at-start.ensures) refl
    (subst (λ (q : Place). Reached (alone_of c.in_ok-walker.walker) c.args.point c.marker_at-start.result q (Err c.in_err-reach.field-0.0) c.reach.new.self)
    c.in_ok-walker.ensures.place c.in_err-reach.ensures.reached))

pub returns-in_err-meet_entries : goal.returns-in_err-meet_entries
returns-in_err-meet_entries c =
    let p = err_from_is_err_and c.from_residual-in_err-meet_entries.result c.from_residual-in_err-meet_entries.ensures.1 in
    let begun = began c.args.point c.marker_at-start.result c.in_ok-walker.walker c.reach.new.self c.in_ok-tracer.tracer
    (check_at c.args.window.now c.args.task c.marker_at-start.result.epoch).body c.marker_at-start.result.epoch c.in_ok-walker.ensures.place
    c.in_ok-reach.ensures.reached c.in_ok-reach.ensures.same c.in_ok-tracer.ensures.begun c.in_ok-tracer.ensures.same in
    rw (p.1, p.2)
    (tells_entries (alone_of c.in_ok-walker.walker) c.args.point c.args.window.now.control c.args.window.now.tail.running c.marker_at-start.result
    (tail_marker c.args.window.now c.args.task)
    (start_place (check_at c.args.window.now c.args.task c.marker_at-start.result.epoch).body c.marker_at-start.result.epoch) _ (tracing_of c.in_ok-tracer.tracer)
    c.in_err-meet_entries.field-0.0 c.meet_entries.new.self
    (by_walker c.args.image.now c.args.window.now c.args.point c.args.task c.marker_at-start.result c.in_ok-walker.walker c.in_ok-walker.ensures c.marker_at-start.ensures) begun.one
    (entries_met {X = Unit {0}} (alone_of c.in_ok-walker.walker) c.in_ok-tracer.tracer c.meet_entries.new.self c.args.point c.control.result.now c.args.window.now.control
    (Err c.in_err-meet_entries.field-0.0) begun.same c.control.ensures c.in_err-meet_entries.ensures.met))

pub returns-in_err-meet_last : goal.returns-in_err-meet_last
returns-in_err-meet_last c =
    let p = err_from_is_err_and c.from_residual-in_err-meet_last.result c.from_residual-in_err-meet_last.ensures.1 in
    let begun = began c.args.point c.marker_at-start.result c.in_ok-walker.walker c.reach.new.self c.in_ok-tracer.tracer
    (check_at c.args.window.now c.args.task c.marker_at-start.result.epoch).body c.marker_at-start.result.epoch c.in_ok-walker.ensures.place
    c.in_ok-reach.ensures.reached c.in_ok-reach.ensures.same c.in_ok-tracer.ensures.begun c.in_ok-tracer.ensures.same in
    let there : slice_get c.args.window.now.tail.at c.args.task ≡ Some c.at-last.result =
    ap (λ (t : Tail). slice_get t.at c.args.task) (sym c.tail-tail.ensures) ∙ ap (slice_get c.tail-tail.result.now.at) (sym c.from.ensures) ∙ c.at-last.ensures in
    let last : c.at-last.result ≡ tail_marker c.args.window.now c.args.task = sym (ap (λ o. unwrap_or o zero_marker) there) in
    let number : c.total.result + 1 ≡ c.args.window.now.control.total + 1 =
    ap (λ n. n + 1) (c.total.ensures.total ∙ ap (λ (k : Kept Switch). k.total) c.control-2.ensures) in
    let entries : entries_of (alone_of c.in_ok-walker.walker) c.args.point c.args.window.now.control (On (tracing_of c.in_ok-tracer.tracer))
    ≡ On (tracing_of c.meet_entries.new.self) =
    entries_met (alone_of c.in_ok-walker.walker) c.in_ok-tracer.tracer c.meet_entries.new.self c.args.point c.control.result.now
    c.args.window.now.control (Ok c.in_ok-meet_entries.field-0) begun.same c.control.ensures c.in_ok-meet_entries.ensures.met in
    rw (p.1, p.2)
    (tells_end (alone_of c.in_ok-walker.walker) c.args.point c.args.window.now.control c.args.window.now.tail.running c.marker_at-start.result
    (tail_marker c.args.window.now c.args.task)
    (start_place (check_at c.args.window.now c.args.task c.marker_at-start.result.epoch).body c.marker_at-start.result.epoch) _ (tracing_of c.in_ok-tracer.tracer)
    (tracing_of c.meet_entries.new.self) c.in_err-meet_last.field-0.0 c.meet_last.new.self
    (by_walker c.args.image.now c.args.window.now c.args.point c.args.task c.marker_at-start.result c.in_ok-walker.walker c.in_ok-walker.ensures c.marker_at-start.ensures) begun.one entries
    (end_met {X = Unit {0}} (alone_of c.in_ok-walker.walker) c.meet_entries.new.self c.meet_last.new.self c.args.window.now.control (c.total.result + 1) _ _
    c.at-last.result (tail_marker c.args.window.now c.args.task) (Err c.in_err-meet_last.field-0.0)
    (c.in_ok-meet_entries.ensures.same ∙ begun.same) number (ap (λ (t : Tail). t.running) c.tail-tail.ensures) last c.in_err-meet_last.ensures.met))

pub returns : goal.returns
returns c =
    let begun = began c.args.point c.marker_at-start.result c.in_ok-walker.walker c.reach.new.self c.in_ok-tracer.tracer
    (check_at c.args.window.now c.args.task c.marker_at-start.result.epoch).body c.marker_at-start.result.epoch c.in_ok-walker.ensures.place
    c.in_ok-reach.ensures.reached c.in_ok-reach.ensures.same c.in_ok-tracer.ensures.begun c.in_ok-tracer.ensures.same in
    let there : slice_get c.args.window.now.tail.at c.args.task ≡ Some c.at-last.result =
    ap (λ (t : Tail). slice_get t.at c.args.task) (sym c.tail-tail.ensures) ∙ ap (slice_get c.tail-tail.result.now.at) (sym c.from.ensures) ∙ c.at-last.ensures in
    let last : c.at-last.result ≡ tail_marker c.args.window.now c.args.task = sym (ap (λ o. unwrap_or o zero_marker) there) in
    let number : c.total.result + 1 ≡ c.args.window.now.control.total + 1 =
    ap (λ n. n + 1) (c.total.ensures.total ∙ ap (λ (k : Kept Switch). k.total) c.control-2.ensures) in
    let entries : entries_of (alone_of c.in_ok-walker.walker) c.args.point c.args.window.now.control (On (tracing_of c.in_ok-tracer.tracer))
    ≡ On (tracing_of c.meet_entries.new.self) =
    entries_met (alone_of c.in_ok-walker.walker) c.in_ok-tracer.tracer c.meet_entries.new.self c.args.point c.control.result.now
    c.args.window.now.control (Ok c.in_ok-meet_entries.field-0) begun.same c.control.ensures c.in_ok-meet_entries.ensures.met in
    let ended : meet (alone_of c.in_ok-walker.walker)
    (end_of (alone_of c.in_ok-walker.walker) c.args.window.now.control c.args.window.now.tail.running (tail_marker c.args.window.now c.args.task))
    (On (tracing_of c.meet_entries.new.self)) ≡ On (tracing_of c.meet_last.new.self) =
    end_met (alone_of c.in_ok-walker.walker) c.meet_entries.new.self c.meet_last.new.self c.args.window.now.control (c.total.result + 1) _ _
    c.at-last.result (tail_marker c.args.window.now c.args.task) (Ok c.in_ok-meet_last.field-0)
    (c.in_ok-meet_entries.ensures.same ∙ begun.same) number (ap (λ (t : Tail). t.running) c.tail-tail.ensures) last c.in_ok-meet_last.ensures.met in
    end_told (alone_of c.in_ok-walker.walker) c.meet_last.new.self c.args.window.now.control (c.total.result + 1) c.args.window.now.tail.running
    c.at-last.result (tail_marker c.args.window.now c.args.task) _ c.close.result
    (c.in_ok-meet_last.ensures.same ∙ c.in_ok-meet_entries.ensures.same ∙ begun.same) number last
    (by_walker c.args.image.now c.args.window.now c.args.point c.args.task c.marker_at-start.result c.in_ok-walker.walker c.in_ok-walker.ensures c.marker_at-start.ensures
    ∙ on_end (alone_of c.in_ok-walker.walker) c.args.point c.args.window.now.control c.args.window.now.tail.running c.marker_at-start.result
    (tail_marker c.args.window.now c.args.task)
    (start_place (check_at c.args.window.now c.args.task c.marker_at-start.result.epoch).body c.marker_at-start.result.epoch)
    (tracing_of c.in_ok-tracer.tracer) (tracing_of c.meet_entries.new.self) (tracing_of c.meet_last.new.self) begun.one entries ended)
    c.close.ensures
