use Rattle.std.proofs.Common.{◌≡◌, ◌^◌, min, true, take}
use Rattle.std.specs.List.{list_all}
use Rattle.std.specs.Char.{is_digit}
use Rattle.std.specs.Str.Parse.{digits_value}
use Rattle.tn_text.proofs.numbers.in_radix.Given as goal

abbrev pub invariant-loop-byte : goal.invariant-loop-byte
invariant-loop-byte l = record {
  digits : list_all (λ b. is_digit b l.radix) (take l.byte-index l.text) ≡ true;
  capped : l.value ≡ min (digits_value l.radix (take l.byte-index l.text)) (2 ^ 32);
}
