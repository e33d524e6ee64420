-- Calls as a store notes them.
use Rattle.std.specs.Prelude.{◌≡◌, List, [], ◌++◌, string_bytes, map}
use Rattle.std.proofs.Common.{sym, ◌∙◌, ap, append_assoc, append-nil}
use Rattle.store.specs.Calls.{Call, Create, CreateDir, Remove, Rename, SyncDir, SyncFile, Write}
use Rattle.command_tests.specs.declared.noted_call.NotedCall.{NotedCall}
use Rattle.command_tests.specs.declared.noted_call.NotedCall.TheVariants as noted

-- what was noted of a call
abbrev pub call_of : NotedCall → Call
call_of (noted.Create path) = Create (string_bytes path)
call_of (noted.CreateDir path) = CreateDir (string_bytes path)
call_of (noted.Write path bytes) = Write (string_bytes path) bytes.items
call_of (noted.SyncFile path) = SyncFile (string_bytes path)
call_of (noted.SyncDir path) = SyncDir (string_bytes path)
call_of (noted.Rename from to) = Rename (string_bytes from) (string_bytes to)
call_of (noted.Remove path) = Remove (string_bytes path)

abbrev pub calls_of : List NotedCall → List Call
calls_of calls = map call_of calls

-- between these lists of noted calls these were noted
abbrev pub IsNoted : List NotedCall → List Call → List NotedCall → Type 0
IsNoted old calls new = calls_of new ≡ calls_of old ++ calls

pub noted_nothing : (old : List NotedCall) → IsNoted old [] old
noted_nothing old = sym (append-nil (calls_of old))

pub noted_both : (old middle new : List NotedCall) (first second : List Call) → IsNoted old first middle → IsNoted middle second new → IsNoted old (first ++ second) new
noted_both old middle new first second one two = two ∙ ap (λ c. c ++ second) one ∙ append_assoc (calls_of old) first second
