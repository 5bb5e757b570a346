use Rattle.tm_kernel.proofs.NestedLeaders.{holders_differ}
use Rattle.tm_kernel.proofs.NestedStates.{arrival_keeps_nested, stop_keeps_nested, rescheduling_keeps_nested}
use Rattle.tm_kernel.proofs.NestedSettling.{every_rescheduling_settles}
use Rattle.tm_kernel.proofs.NestedCalls.{boot_is_nested, call_keeps_nested}
use Rattle.tm_kernel.proofs.nesting.holders_stay_nested.Goals as goal

pub returns : goal.returns
returns c = record {
  boot = boot_is_nested;
  call = call_keeps_nested;
  arrival = arrival_keeps_nested;
  rescheduling = rescheduling_keeps_nested;
  stop = stop_keeps_nested;
  settles = every_rescheduling_settles;
  differ = holders_differ;
}
