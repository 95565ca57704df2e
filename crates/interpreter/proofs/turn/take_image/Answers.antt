-- An image byte alone.
use Rattle.std.proofs.Common.{refl, get_or}
use Rattle.interpreter.proofs.Stepping.{image-frame, whole}
use Rattle.interpreter.proofs.Taken.{byte-turned}
use Rattle.interpreter.proofs.turn.take_image.Goals as goal

pub returns : goal.returns
returns c =
    let b = get_or c.args.input.now 0 0 in
    rw c.after.ensures
    (byte-turned c.requires (λ p v h. whole h b (image-frame h b refl) (c.print-wrote.ensures p v h.held)) c.write_record.ensures)
