use Rattle.std.proofs.Common.{◌≡◌, ◌≤◌, length, ap, sym, subst, arith, All, List, ℕ}
use Rattle.tm_system.specs.Telling.{below}
use Rattle.tm_prog.specs.Teller.{state_in}
use Rattle.tm_system.proofs.Below.{length-below}
use Rattle.tm_prog.proofs.Endings.{states_named}
use Rattle.tm_prog.proofs.teller.Teller.end.Goals as goal

pub write_end-requires-clause-states : goal.write_end-requires-clause-states
write_end-requires-clause-states c =
    let states : length c.in_ok-tail.tail.state ≡ length (below (length c.args.machine.now.tasks) (state_in c.args.machine.now)) = ap length c.in_ok-tail.ensures.state in
    omega (arith, states, length-below (length c.args.machine.now.tasks) (state_in c.args.machine.now), c.in_ok-tracks.ensures.number, c.deref-3.ensures.len)

pub write_end-requires-clause-ending : goal.write_end-requires-clause-ending
write_end-requires-clause-ending c = c.in_ok-tail.ensures.ending

pub write_end-requires-clause-named : goal.write_end-requires-clause-named
write_end-requires-clause-named c =
    let P : List ℕ → Type 0 = λ states. All (λ s. s ≤ 3) states in
    subst P (sym c.in_ok-tail.ensures.state) (states_named c.args.machine.now (length c.args.machine.now.tasks))
