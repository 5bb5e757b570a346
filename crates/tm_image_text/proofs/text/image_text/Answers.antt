use Rattle.std.proofs.lemmas.Result.{on_ok_weaker}
use Rattle.tm_image_text.proofs.Back.{text_read}
use Rattle.tm_image_text.proofs.text.image_text.Goals as goal

pub returns-else-is_err-clause-back : goal.returns-else-is_err-clause-back
returns-else-is_err-clause-back c =
    on_ok_weaker c.put_image-written.result (text_read c.args.image.now c.attest.ensures) c.put_image-written.ensures.narrow
