-- What kinds of endings of a call there are. What becomes of the world depends on the kind alone.
use Rattle.tm_prog.specs.declared.status.Status.{Status}
use Rattle.tm_prog.specs.declared.status.Status.TheVariants as status

pub data Class : Type 0 where
  -- all was done
  Done : Class
  -- a put or a write failed in the midst
  HalfDone : Class
  -- the words ask for nothing
  Unasked : Class
  -- a get failed
  Unread : Class
  -- memory was wanting
  Starved : Class
  -- what was read is refused
  Refusal : Class

abbrev pub class_of : Status → Class
class_of status.Ok = Done
class_of status.WriteFault = HalfDone
class_of status.Words = Unasked
class_of status.ReadFault = Unread
class_of status.Memory = Starved
class_of _ = Refusal
