use Rattle.tm_kernel.proofs.Keeping.{booted_keeps, arrived_keeps, stopped_keeps}
use Rattle.tm_kernel.proofs.Rescheduling.{run_keeps, rescheduling_keeps}
use Rattle.tm_kernel.proofs.Answering.{call_keeps}
use Rattle.tm_kernel.proofs.laws.kernels_stay_sound.Goals as goal

pub returns : goal.returns
returns c = record {
  boot = booted_keeps;
  call = call_keeps;
  arrival = arrived_keeps;
  run = run_keeps;
  rescheduling = rescheduling_keeps;
  stop = stopped_keeps;
}
