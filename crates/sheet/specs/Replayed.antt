-- Calls as they are handed over, and what came of them.
use Rattle.std.specs.Prelude.{List, map}
use Rattle.sheet.specs.declared.call.Call.{Call as Given}
use Rattle.sheet.specs.declared.call.Call.TheVariants as given
use Rattle.sheet.specs.Runs.{Call, Open, Enter, Strike, Complete}

-- a call that lends its list, as the call on that list
abbrev pub call_of : Given → Call
call_of (given.Open literals) = Open literals.now
call_of (given.Enter P) = Enter P
call_of (given.Strike p) = Strike p
call_of given.Complete = Complete

abbrev pub calls_of : List Given → List Call
calls_of cs = map call_of cs
