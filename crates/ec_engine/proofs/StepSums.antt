-- Sums of steps: what the parts of a call take is within what the whole may take.
use Rattle.std.proofs.Common.{◌≡◌, ◌≤◌, ◌+◌, ◌*◌, ℕ, arith}

-- a change that is planned and made
pub sums-made : (start seen entries removed between : ℕ) {mid last taken : ℕ} → mid ≤ start + 2 * seen + entries + removed → last ≡ mid + taken → taken ≡ removed
    → 2 * seen + entries + 2 * removed ≤ between → last ≤ start + between
sums-made start seen entries removed between planned made same within = omega arith

-- one that is planned and not made
pub sums-planned : (start seen entries removed between : ℕ) {mid : ℕ} → mid ≤ start + 2 * seen + entries + removed → 2 * seen + entries + 2 * removed ≤ between → mid + removed ≤ start + between
sums-planned start seen entries removed between planned within = omega arith

-- one that is undone
pub sums-undone : (start mid removed between : ℕ) {last taken : ℕ} → mid + removed ≤ start + between → taken ≡ removed → last ≤ mid + taken → last ≤ start + between
sums-undone start mid removed between planned same back = omega arith

-- a walk that is carried out
pub sums-walked : (start touched between : ℕ) {mid last : ℕ} → mid ≤ start + touched → last ≤ mid + between → last ≤ start + touched + between
sums-walked start touched between read carried = omega arith

-- one that is undone
pub sums-walked_back : (start touched between : ℕ) {mid last left : ℕ} → mid ≡ start → left ≡ touched → last ≤ mid + left → last ≤ start + touched + between
sums-walked_back start touched between none same back = omega arith

-- from no event on
pub sums-filled : (start touched between listed : ℕ) {last none from entries : ℕ} → last ≤ start + touched + between → between ≡ from → from ≤ entries → touched ≤ none + listed → none ≡ 0
    → last ≤ start + entries + listed
sums-filled start touched between listed carried moved least more none = omega arith

-- a batch that is refused
pub sums-refused : (start listed : ℕ) {last updates most : ℕ} → last ≤ start + 2 * listed → updates ≡ listed → 2 * updates ≤ most → last ≤ start + most
sums-refused start listed tried count least = omega arith

-- a batch that is tried and carried out
pub sums-revised : (start listed between : ℕ) {mid last touched from updates most all : ℕ} → mid ≤ start + listed → touched ≤ listed → last ≤ mid + touched + between → between ≡ from → updates ≡ listed
    → from + 2 * updates ≤ most → most ≡ all → last ≤ start + all
sums-revised start listed between tried touched carried moved count most seen = omega arith

-- an event that is carried out
pub sums-arrived : (start between more : ℕ) {last from most all : ℕ} → last ≤ start + between → between ≡ from → from + more ≤ most → most ≡ all → last ≤ start + all
sums-arrived start between more carried moved most seen = omega arith
