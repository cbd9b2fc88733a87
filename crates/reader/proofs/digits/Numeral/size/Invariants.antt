use Rattle.std.proofs.Common.{◌≡◌, ◌+◌, ◌^◌, ◌<◌, length, drop}
use Rattle.std.specs.Char.{is_ascii_digit}
use Rattle.std.specs.List.{prefix_len}
use Rattle.reader.specs.Fields.{read_on}
use Rattle.reader.proofs.digits.Numeral.size.Given as goal

abbrev pub invariant-loop-d : goal.invariant-loop-d
invariant-loop-d l =
    (read_on l.size (drop l.d-index l.self.digits.now) ≡ read_on 0 l.self.digits.now)
    × (l.size < 10 ^ l.d-index)
    × (prefix_len is_ascii_digit (drop l.d-index l.self.digits.now) + l.d-index ≡ length l.self.digits.now)
