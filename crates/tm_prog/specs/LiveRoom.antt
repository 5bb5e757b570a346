-- The memory that a live run takes before its first slice.
use Rattle.std.specs.Prelude.{◌≡◌, ℕ, ◌+◌, ◌*◌, ◌≤◌, [], Vec, vec_len, vec_capacity}
use Rattle.tm_image.specs.Image.{ImageView}
use Rattle.tm_log.specs.Window.{dump_bound}
use Rattle.tm_record.specs.StandsFor.{StandsFor}
use Rattle.tm_prog.specs.declared.live_room.LiveRoom.{LiveRoom}
use Rattle.tm_prog.specs.declared.live_room.LiveRun.{LiveRun}

-- an empty vector with room for so many items
pub record IsRoom {X Z : Type 0} (most : ℕ) (v : Vec X Z) : Type 0 where
  pub empty : v.items ≡ []
  pub room : vec_len v + most ≤ vec_capacity v

-- room for a dump of so many bytes, for the text of a tape of so many slices, and for the text of an audit
pub record HasRooms (bound slices : ℕ) (room : LiveRoom) : Type 0 where
  pub dump : IsRoom bound room.dump
  pub tape : IsRoom (9 + 65 * slices) room.tape
  pub audit : IsRoom 2048 room.audit

-- a run of so many slices on an image, of which none was run
pub record IsOpen (image : ImageView) (slices : ℕ) (run : LiveRun) : Type 0 where
  pub recorder : StandsFor image run.recorder []
  pub tape : run.tape ≡ record { slices = []; room = slices }
  pub rooms : HasRooms (dump_bound run.recorder.window.shape) slices run.room
