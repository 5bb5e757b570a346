use Rattle.std.proofs.Common.{◌≡◌, ℕ, ◌<◌, ◌≤◌, true, false, ap, sym, subst, ◌∙◌, arith}
use Rattle.tm_marker.specs.Order.{marker_lt}
use Rattle.tm_task.specs.Standing.{marker_of}
use Rattle.tm_system.specs.Alone.{Alone, walk_to}
use Rattle.tm_replay.specs.Walking.{alone_of, place_of}
use Rattle.tm_replay.proofs.Walks.{walks_on, sticks, comes, nearer}
use Rattle.tm_replay.proofs.walker.Walker.walk_to.Goals as goal

still_smaller : {a b c : ℕ} → b < c → a ≤ b → a < c
still_smaller less most = omega arith

pub returns-in-Some-clause-walked : goal.returns-in-Some-clause-walked
returns-in-Some-clause-walked c =
    let before : marker_lt (marker_of c.walk.self.task.standing) c.args.wanted ≡ true =
    ap (λ m. marker_lt m c.args.wanted) (sym c.marker.ensures) ∙ sym c.is_before.ensures.order ∙ c.walk-test.true in
    let went = rw c.in-Some.is at c.in_ok-why.ensures.went in
    sticks (alone_of c.args.self.now) (alone_of c.walk.self) c.args.wanted (place_of c.walk.self) (place_of c.step.new.self)
    (place_of c.args.self.now) c.in-Some.why c.walk.invariant.same c.walk.invariant.sound.walker before went.0 went.1
    c.walk.invariant.walks

pub walk-smaller : goal.walk-smaller
walk-smaller c =
    let before : marker_lt (marker_of c.walk.self.task.standing) c.args.wanted ≡ true =
    ap (λ m. marker_lt m c.args.wanted) (sym c.marker.ensures) ∙ sym c.is_before.ensures.order ∙ c.walk-test.true in
    let went = rw c.in-None.is at c.in_ok-why.ensures.went in
    let step = nearer (alone_of c.walk.self) c.args.wanted (place_of c.walk.self) (place_of c.step.new.self) c.walk.invariant.sound.walker before went in
    still_smaller step c.run_on-in-None.ensures.ran.nearer

pub walk-preserved : goal.walk-preserved
walk-preserved c =
    let before : marker_lt (marker_of c.walk.self.task.standing) c.args.wanted ≡ true =
    ap (λ m. marker_lt m c.args.wanted) (sym c.marker.ensures) ∙ sym c.is_before.ensures.order ∙ c.walk-test.true in
    let went = rw c.in-None.is at c.in_ok-why.ensures.went in
    let same : alone_of c.step.new.self ≡ alone_of c.args.self.now = c.in_ok-why.ensures.same ∙ c.walk.invariant.same in
    let on = walks_on (alone_of c.args.self.now) (alone_of c.walk.self) c.args.wanted (place_of c.walk.self) (place_of c.step.new.self)
    (place_of c.args.self.now) c.walk.invariant.same c.walk.invariant.sound.walker before went c.walk.invariant.walks in
    record {
      sound = c.run_on-in-None.ensures.sound;
      words = c.run_on-in-None.ensures.ran.words ∙ c.in_ok-why.ensures.words ∙ c.walk.invariant.words;
      same = c.run_on-in-None.ensures.ran.same ∙ same;
      walks =
          subst (λ (a : Alone). walk_to a c.args.wanted (place_of c.run_on-in-None.new.self) ≡ walk_to a c.args.wanted (place_of c.step.new.self)) same
          c.run_on-in-None.ensures.ran.walks
          ∙ on;
    }

pub returns-clause-walked : goal.returns-clause-walked
returns-clause-walked c =
    let here : marker_lt (marker_of c.walk.self.task.standing) c.args.wanted ≡ false =
    ap (λ m. marker_lt m c.args.wanted) (sym c.marker.ensures) ∙ sym c.is_before.ensures.order ∙ c.walk-test.false in
    comes (alone_of c.args.self.now) c.args.wanted (place_of c.walk.self) (place_of c.args.self.now) here c.walk.invariant.walks
