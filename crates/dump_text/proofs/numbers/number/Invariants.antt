use Rattle.dump_text.proofs.Prelude.{◌≡◌, ◌<◌, ◌^◌, take, true, list_all, is_ascii_digit, digits_value}
use Rattle.dump_text.proofs.numbers.number.Given as goal

abbrev pub invariant-loop-digit : goal.invariant-loop-digit
invariant-loop-digit l = record {
  value : l.value ≡ digits_value 10 (take l.digit-index l.bytes);
  small : l.value < 10 ^ l.digit-index;
  digits : list_all is_ascii_digit (take l.digit-index l.bytes) ≡ true;
}
