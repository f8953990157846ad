-- Sums of counts: steps, identities and mentions.
use Rattle.std.proofs.Common.{◌≡◌, ◌≤◌, ◌<◌, ◌+◌, ◌^◌, ℕ, arith}
use Rattle.ec_axioms.specs.Links.{most_mentions}

-- one more in each round
pub count-more : (mid start i : ℕ) {last : ℕ} → last ≤ mid + 1 → mid ≤ start + i → last ≤ start + (i + 1)
count-more mid start i more were = omega arith

-- one more in the last of the rounds
pub count-within : (mid start i rounds : ℕ) {last : ℕ} → last ≤ mid + 1 → mid ≤ start + i → i < rounds → last ≤ start + rounds
count-within mid start i rounds more were round = omega arith

-- one less is left in each round
pub count-less : (mid left most : ℕ) {last whole : ℕ} → last ≤ mid + 1 → mid + whole ≤ most → whole ≡ left + 1 → last + left ≤ most
count-less mid left most more were one_less = omega arith

-- no more mentions than there may be are few
pub few-mentions : {mentions : ℕ} → mentions ≤ most_mentions → mentions < 2 ^ 32
few-mentions most = omega arith

-- what is counted of mentions that come in again is within the limit
pub mentions-back : (counted own : ℕ) {all were shown : ℕ} → all ≤ most_mentions → all ≡ own + were → shown ≡ own → counted ≡ were → counted + shown ≤ 2 ^ 21
mentions-back counted own few sum made count = omega arith
