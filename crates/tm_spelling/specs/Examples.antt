-- Worked lines and blocks, against which the spelling is checked.
use Rattle.std.specs.Prelude.{ℕ, ◌++◌, List, [], ◌∷◌, codes, replicate, Some, None}
use Rattle.tm_marker.specs.declared.marker.Marker.{Marker}
use Rattle.tm_marker.specs.declared.entries.Kind.TheVariants.{Preempted, Fault, Idle}
use Rattle.tm_spelling.specs.Lines.{line}
use Rattle.tm_spelling.specs.Story.{View, Block, Last}

-- a marker of its three parts
abbrev pub marker : ℕ → ℕ → ℕ → Marker
marker epoch count pc = record { epoch = epoch; count = count; pc = pc }

-- nobody's marker
abbrev pub zero_marker : Marker
zero_marker = marker 0 0 0

-- x2 is the end of one data word, and the other registers are 0 but x10, x11 and x17
abbrev pub registers : ℕ → ℕ → ℕ → List ℕ
registers x10 x11 x17 =
    0 ∷ 0x10000004 ∷ 0 ∷ 0 ∷ 0 ∷ 0 ∷ 0 ∷ 0 ∷ 0 ∷ x10 ∷ x11 ∷ 0 ∷ 0 ∷ 0 ∷ 0 ∷ 0 ∷ x17 ∷ replicate 14 0

-- a task as it boots
abbrev pub booted : ℕ → View
booted task = record { task = task; at = zero_marker; regs = registers 0 0 0; changed = [] }

-- a task that jumps to itself is preempted after five jumps
abbrev pub preempted_block : Block
preempted_block = record {
  seq = 2;
  switch = record { from = 0; kind = Preempted; from_at = marker 0 5 0; to = 1; to_at = zero_marker };
  leave = Some (record {
    cause = 0;
    view = record { task = 0; at = marker 0 5 0; regs = registers 0 0 0; changed = [] };
    outputs = [];
  });
}

-- a task stores into its text
abbrev pub fault_block : Block
fault_block = record {
  seq = 2;
  switch = record { from = 0; kind = Fault; from_at = zero_marker; to = 255; to_at = zero_marker };
  leave = Some (record { cause = 6; view = booted 0; outputs = [] });
}

-- nobody ran before
abbrev pub idle_block : Block
idle_block = record {
  seq = 1;
  switch = record { from = 255; kind = Idle; from_at = zero_marker; to = 0; to_at = zero_marker };
  leave = None;
}

-- the running task at the end has written to a port, and a data word became 7
abbrev pub running_last : Last
running_last = record {
  state = 2;
  view = record {
    task = 0;
    at = marker 0 0 16;
    regs = registers 0 0 0x13;
    changed = (0x10000000, 7) ∷ [];
  };
  outputs = record { task = 0; port = 1; value = 7 } ∷ [];
}

-- the lines of the preempted block
abbrev pub preempted_lines : List ℕ
preempted_lines =
    line (codes "switch 2 0 preempted 1") ++ line (codes "at 0.5.00000000") ++ line (codes "regs x2=10000004")

-- the lines of the fault block
abbrev pub fault_lines : List ℕ
fault_lines =
    line (codes "switch 2 0 fault -") ++ line (codes "at 0.0.00000000") ++ line (codes "cause 6") ++
    line (codes "regs x2=10000004")

-- the lines of the start at boot
abbrev pub start_lines : List ℕ
start_lines = line (codes "start 0 -") ++ line (codes "task 0 0.0.00000000") ++ line (codes "regs x2=10000004")

-- the lines of the end
abbrev pub end_lines : List ℕ
end_lines =
    line (codes "end 0 on") ++ line (codes "task 0 running 0.0.00000010") ++
    line (codes "regs x2=10000004 x17=00000013") ++ line (codes "data 10000000 00000007") ++
    line (codes "out 1 00000007")
