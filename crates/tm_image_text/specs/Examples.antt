-- Images that the examples share.
use Rattle.std.specs.Prelude.{true, false, [], ◌∷◌, ◌++◌, replicate}
use Rattle.tm_kernel.specs.declared.spec.Action.TheVariants.{Nothing, Tick, Activate, Event}
use Rattle.tm_rv.specs.declared.instr.Set.TheVariants.{Base, Mul}
use Rattle.tm_image.specs.Image.{ImageView}

-- a task that waits for no data, and nothing else
abbrev pub one_task : ImageView
one_task = record {
  digest = replicate 32 0;
  set = Base;
  spec = record {
    tasks = record { extended = false; priority = 1; auto = true } ∷ [];
    users = [];
    alarms = [];
    boxes = [];
    lines = replicate 16 Nothing;
  };
  loads = record { entry = 0; text = 0x00200893 ∷ 0x00000073 ∷ []; set = Base; words = 0 ∷ [] } ∷ [];
  caps = record { control = 256; logs = 256; outputs = 256; checks = 4 };
}

-- a task that multiplies, and nothing else
abbrev pub one_product : ImageView
one_product = record one_task {
  set = Mul;
  loads = record { entry = 0; text = 0x02208133 ∷ 0x00000073 ∷ []; set = Mul; words = 0 ∷ [] } ∷ [];
}

-- each kind of line
abbrev pub every_line : ImageView
every_line = record {
  digest = replicate 32 0;
  set = Base;
  spec = record {
    tasks =
        record { extended = true; priority = 255; auto = true } ∷ record { extended = false; priority = 2; auto = false } ∷ [];
    users = 3 ∷ 2 ∷ [];
    alarms = Activate 1 ∷ Event 0 4294967295 ∷ [];
    boxes = 64 ∷ [];
    lines = Tick ∷ Nothing ∷ Nothing ∷ Activate 1 ∷ (replicate 11 Nothing ++ Event 0 16 ∷ []);
  };
  loads =
      record { entry = 4; text = 0x0000006f ∷ 0xdeadbeef ∷ []; set = Base; words = 7 ∷ 0 ∷ 0xffffffff ∷ [] } ∷
      record { entry = 0; text = 0x00000073 ∷ []; set = Base; words = 0 ∷ 10 ∷ 0 ∷ 0 ∷ [] } ∷ [];
  caps = record { control = 65536; logs = 1024; outputs = 1; checks = 16 };
}
