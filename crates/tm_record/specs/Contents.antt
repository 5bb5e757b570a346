-- What a recorder has after one slice, as a function of what it had before and the slice.
use Rattle.std.specs.Prelude.{◌+◌}
use Rattle.tm_marker.specs.declared.entries.Slice.{Slice}
use Rattle.tm_image.specs.Image.{ImageView}
use Rattle.tm_log.specs.Window.{WindowView}
use Rattle.tm_system.specs.Hearing.{Heard, heard, after_slice}
use Rattle.tm_record.specs.StandsFor.{RecorderView}
use Rattle.tm_record.specs.Recording.{noted, tail_of}

-- with the machine's tail
abbrev pub with_tail : Heard WindowView → Heard WindowView
with_tail x = heard x.machine (record x.listener { tail = tail_of x.machine })

-- a machine and its window after a slice: each moment is noted, then the tail
abbrev pub after_recording : ImageView → Slice → Heard WindowView → Heard WindowView
after_recording image s x = with_tail (after_slice noted image s x)

-- a recorder after a slice
abbrev pub stepped : RecorderView → Slice → RecorderView
stepped r s =
    let x = after_recording r.image s (heard r.machine r.window) in
    record r { machine = x.machine; window = x.listener; slices = r.slices + 1 }
