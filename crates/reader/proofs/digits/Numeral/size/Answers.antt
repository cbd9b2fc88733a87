use Rattle.std.proofs.Common.{arith}
use Rattle.reader.proofs.Numerals.{digit_now, ten_room}
use Rattle.reader.proofs.digits.Numeral.size.Goals as goal

pub overflow_mul-size : goal.overflow_mul-size
overflow_mul-size c = omega (arith, ten_room _ _ 8 c.loop-d.invariant.1 (omega (arith, c.requires)))

pub overflow_add-size : goal.overflow_add-size
overflow_add-size c =
    let h = digit_now c.args.self.digits.now c.loop-d.d-index c.loop-d-test.true c.loop-d.invariant.2 in
    omega (arith, ten_room _ _ 8 c.loop-d.invariant.1 (omega (arith, c.requires)))
