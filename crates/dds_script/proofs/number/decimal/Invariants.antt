use Rattle.std.proofs.Common.{◌≡◌, ◌<◌, ◌^◌, length, take, true}
use Rattle.std.specs.Char.{is_ascii_digit}
use Rattle.std.specs.List.{list_all}
use Rattle.std.specs.Str.Parse.{digits_value}
use Rattle.dds_script.proofs.number.decimal.Given as goal

abbrev pub invariant-loop-digit : goal.invariant-loop-digit
invariant-loop-digit l = record {
  some : 0 < length l.word;
  same : l.digit-items ≡ l.word;
  small : l.number < 2 ^ 64;
  digits : list_all is_ascii_digit (take l.digit-index l.word) ≡ true;
  value : l.number ≡ digits_value 10 (take l.digit-index l.word);
}
