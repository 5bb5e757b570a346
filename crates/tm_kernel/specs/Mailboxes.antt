-- Boxes of messages, each with room for a number of them that never changes.
use Rattle.std.specs.Prelude.{ℕ, nat_lt, if◌then◌else◌, List, [], ◌∷◌, ◌++◌, map, slice_get, slice_set, length, Option, Some, None, Result, Ok, Err, unwrap_or}
use Rattle.tm_services.specs.declared.status.TheConstants.{E_OK, E_OS_ID, E_OS_LIMIT, E_OS_NOFUNC}

-- a message of a box: four words
abbrev pub Message : Type 0
Message = List ℕ

-- one box: its messages, oldest first, and how many it can hold
pub record MailboxView : Type 0 where
  pub messages : List Message
  pub capacity : ℕ

-- all boxes in order: the messages of each, oldest first, and how many each can hold
pub record MailboxesView : Type 0 where
  pub messages : List (List Message)
  pub capacities : List ℕ

-- the value of a list of boxes
abbrev pub boxes_of : List MailboxView → MailboxesView
boxes_of boxes = record { messages = map (λ b. b.messages) boxes; capacities = map (λ b. b.capacity) boxes }

-- the status of Send: there must be such a box, and it must have room for one more message
abbrev pub send_status : List ℕ → ℕ → Option (List Message) → ℕ
send_status capacities box None = E_OS_ID
send_status capacities box (Some messages) =
    if nat_lt (length messages) (unwrap_or (slice_get capacities box) 0) then E_OK else E_OS_LIMIT

-- the boxes with one more message in a box, the last
abbrev pub put_last : List (List Message) → ℕ → Message → List (List Message)
put_last boxes box message = slice_set boxes box (unwrap_or (slice_get boxes box) [] ++ message ∷ [])

-- the first message of a box, or why there is none
abbrev pub first_message : Option (List Message) → Result Message ℕ
first_message None = Err E_OS_ID
first_message (Some []) = Err E_OS_NOFUNC
first_message (Some (first ∷ rest)) = Ok first

-- the boxes without the first message of a box, where it has one
abbrev pub without_first : List (List Message) → ℕ → Option (List Message) → List (List Message)
without_first boxes box None = boxes
without_first boxes box (Some []) = boxes
without_first boxes box (Some (first ∷ rest)) = slice_set boxes box rest
