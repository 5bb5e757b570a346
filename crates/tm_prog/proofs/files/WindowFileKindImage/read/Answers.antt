use Rattle.tm_image.specs.Image.{shape_of}
use Rattle.tm_dump.proofs.Assembly.{reads_dumps}
use Rattle.tm_prog.proofs.Told.{bytes_small}
use Rattle.tm_prog.proofs.files.WindowFileKindImage.read.Goals as goal

pub returns-in-Ok-clause-sound : goal.returns-in-Ok-clause-sound
returns-in-Ok-clause-sound c =
    (reads_dumps (shape_of c.args.image.now) c.args.bytes.now c.in-Ok.window (bytes_small c.args.bytes.now c.type_inv.bytes) c.in-Ok.ensures.read).0
