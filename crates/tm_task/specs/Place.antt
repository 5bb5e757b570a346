-- Where a task stands after some of its own instructions, with its calls answered by a list.
use Rattle.std.specs.Prelude.{ℕ, zero, suc, ◌+◌, ◌&&◌, ◌==◌, nat_lt, if◌then◌else◌, List, [], ◌∷◌, ◌++◌, slice_get, Option, Some, None, option_and_then}
use Rattle.tm_marker.specs.declared.body.Body.{Body}
use Rattle.tm_marker.specs.declared.entries.DataEntry.{DataEntry}
use Rattle.tm_marker.specs.declared.entries.OutputEntry.{OutputEntry}
use Rattle.tm_rv.specs.Code.{Text}
use Rattle.tm_task.specs.Exec.{Exec, Faults, Calls, Goes, exec, reg}
use Rattle.tm_task.specs.Standing.{Standing, went, answered}

-- a standing, how many entries of the list were used, and the outputs made
pub record Place : Type 0 where
  pub standing : Standing
  pub used : ℕ
  pub made : List OutputEntry

-- the place at the start of an epoch
abbrev pub start_place : Body → ℕ → Place
start_place body epoch = record { standing = record { body = body; epoch = epoch; count = 0 }; used = 0; made = [] }

-- the output that a WriteOutput of the task makes: a0 is the port, a1 the value
abbrev pub output_of : ℕ → Body → DataEntry → List OutputEntry
output_of task b d =
    if d.service == 19 && d.status == 0 && nat_lt (reg b 10) 4
    then (record { task = task; port = reg b 10; value = reg b 11 }) ∷ []
    else []

-- the place after a call that this entry answers, where it is of the called service
abbrev pub after_call : ℕ → ℕ → Place → ℕ → Option DataEntry → Option Place
after_call entry task p service None = None
after_call entry task p service (Some d) =
    if d.service == service
    then Some (record {
      standing = answered entry p.standing d;
      used = p.used + 1;
      made = p.made ++ output_of task p.standing.body d;
    })
    else None

-- the place after what the instruction did; none after a fault
abbrev pub place_by : ℕ → ℕ → List DataEntry → Place → Exec → Option Place
place_by entry task log p (Faults cause) = None
place_by entry task log p (Calls service) = after_call entry task p service (slice_get log p.used)
place_by entry task log p (Goes next back) = Some (record p { standing = went p.standing next back })

-- the place after one more instruction of the task
unfoldable pub next_place : ℕ → ℕ → Text → List DataEntry → Place → Option Place
next_place entry task text log p = place_by entry task log p (exec text p.standing.body)

-- the place after n instructions
unfoldable pub place_after : ℕ → ℕ → Text → List DataEntry → Place → ℕ → Option Place
place_after entry task text log p zero = Some p
place_after entry task text log p (suc n) =
    option_and_then (λ q. next_place entry task text log q) (place_after entry task text log p n)
