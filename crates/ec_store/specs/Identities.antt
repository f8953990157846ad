-- The key by which identities are searched: a number that is read off them.
use Rattle.std.specs.Prelude.{ℕ, ◌+◌, ◌-◌, ◌*◌, ◌^◌, ◌%◌, List, length, take, drop}
use Rattle.std.specs.List.{fold}
use Rattle.std.specs.Hash.FoldHasher.{initial, write, finish}

-- the last six bytes of an identity, or all of a shorter one, and what is in front of them
abbrev pub tail_of : List ℕ → List ℕ
tail_of id = drop (length id - 6) id

abbrev pub head_of : List ℕ → List ℕ
head_of id = take (length id - 6) id

-- bytes as the digits of one number, of which 64 bits are kept
abbrev pub number_of : List ℕ → ℕ
number_of bytes = fold (λ n byte. ((n * 256) % 2 ^ 64 + byte) % 2 ^ 64) 0 bytes

-- a hash of bytes
abbrev pub hash_of : List ℕ → ℕ
hash_of bytes = finish (write initial bytes)

-- The key of an identity: its last six bytes as they are, in 48 bits, and above them 16 bits of a hash of what is in front.
-- So identities that are counted up have keys that go up for a million numbers.
unfoldable pub key_of : List ℕ → ℕ
key_of id = ((hash_of (head_of id) * 2 ^ 48) % 2 ^ 64 + number_of (tail_of id)) % 2 ^ 64
