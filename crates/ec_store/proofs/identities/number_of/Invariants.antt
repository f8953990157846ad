-- What has been read so far is the number of the bytes so far.
use Rattle.std.proofs.Common.{◌≡◌, take}
use Rattle.ec_store.specs.Identities.{number_of}
use Rattle.ec_store.proofs.identities.number_of.Given as goal

abbrev pub invariant-loop-byte : goal.invariant-loop-byte
invariant-loop-byte l = l.number ≡ number_of (take l.byte-index l.bytes)
