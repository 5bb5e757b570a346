-- The services by their numbers.
use Rattle.std.specs.Prelude.{ℕ, ◌==◌, List, [], ◌∷◌, find, Option}
use Rattle.tm_marker.specs.declared.service.Service.{Service}
use Rattle.tm_marker.specs.declared.service.Service.TheVariants.{ActivateTask, TerminateTask, ChainTask, GetTaskId, GetTaskState, GetResource, ReleaseResource, SetEvent, ClearEvent, GetEvent, WaitEvent, GetAlarm, SetRelAlarm, SetAbsAlarm, CancelAlarm, Send, Receive, ReadInput, WriteOutput, ShutdownOs}

-- the number by which a task calls a service
abbrev pub service_number : Service → ℕ
service_number ActivateTask = 1
service_number TerminateTask = 2
service_number ChainTask = 3
service_number GetTaskId = 4
service_number GetTaskState = 5
service_number GetResource = 6
service_number ReleaseResource = 7
service_number SetEvent = 8
service_number ClearEvent = 9
service_number GetEvent = 10
service_number WaitEvent = 11
service_number GetAlarm = 12
service_number SetRelAlarm = 13
service_number SetAbsAlarm = 14
service_number CancelAlarm = 15
service_number Send = 16
service_number Receive = 17
service_number ReadInput = 18
service_number WriteOutput = 19
service_number ShutdownOs = 20

-- all services
abbrev pub services : List Service
services =
    ActivateTask ∷ TerminateTask ∷ ChainTask ∷ GetTaskId ∷ GetTaskState ∷ GetResource ∷ ReleaseResource ∷ SetEvent ∷ ClearEvent ∷ GetEvent ∷
    WaitEvent ∷ GetAlarm ∷ SetRelAlarm ∷ SetAbsAlarm ∷ CancelAlarm ∷ Send ∷ Receive ∷ ReadInput ∷ WriteOutput ∷ ShutdownOs ∷ []

-- the service of a number, where there is one
unfoldable pub service_of : ℕ → Option Service
service_of number = find (λ service. service_number service == number) services
