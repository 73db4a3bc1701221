-- The line for a line that is no call (docs/ORACLE.md, "Answer lines": the reasons).
-- Assumes nothing.
use Rattle.std.specs.Prelude.{List, ℕ}
use Rattle.call_lines.specs.declared.Fault.{Fault}
use Rattle.call_lines.specs.declared.Fault.TheVariants.{NotDecimal, NumberAboveLimit, TooLong, UnknownKind, WrongCount, NotFlag, NoSuchMode, NoSuchPromise, PlaceAboveLimit}
use Rattle.texts.specs.Text.{ascii}

unfoldable pub fault_text : Fault → List ℕ
fault_text NotDecimal = ascii "bad line: not decimal numbers\n"
fault_text NumberAboveLimit = ascii "bad line: number above 18446744073709551615\n"
fault_text TooLong = ascii "bad line: too long\n"
fault_text UnknownKind = ascii "bad line: unknown kind\n"
fault_text WrongCount = ascii "bad line: wrong count of numbers\n"
fault_text NotFlag = ascii "bad line: not a flag\n"
fault_text NoSuchMode = ascii "bad line: no such mode\n"
fault_text NoSuchPromise = ascii "bad line: no such promise\n"
fault_text PlaceAboveLimit = ascii "bad line: table place above its limit\n"
