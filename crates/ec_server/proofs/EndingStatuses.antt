-- The statuses of endings.
use Rattle.std.proofs.Common.{◌≡◌, ◌⊎◌, ℕ, true, IsTrue, refl, sym, subst, ◌∙◌, inl, inr}
use Rattle.std.proofs.lemmas.Bool.{false≢true}
use Rattle.ec_files.specs.declared.status.Status.TheVariants as status
use Rattle.ec_files.specs.ExitStatus.{hands_on}
use Rattle.ec_server.specs.declared.ending.Ending.{Ending}
use Rattle.ec_server.specs.declared.ending.Ending.TheVariants as ending
use Rattle.ec_server.specs.Ending.{status_of}

-- where serving ended other than by a write that failed, nothing waits
pub hands_on-ending : (e : Ending) (waits : ℕ) → (e ≡ ending.WriteFault) ⊎ (waits ≡ 0) → IsTrue (hands_on (status_of e)) → waits ≡ 0
unfolding hands_on status_of
hands_on-ending e waits (inr none) on = none
hands_on-ending e waits (inl fault) on = absurd (false≢true (subst (λ (e : Ending). hands_on (status_of e) ≡ true) fault on))

-- a status that tells a write that failed is of an ending that does
pub write_fault-ending : (e : Ending) → status_of e ≡ status.WriteFault → e ≡ ending.WriteFault
unfolding status_of
write_fault-ending ending.End same = absurd (cc)
write_fault-ending ending.Quit same = absurd (cc)
write_fault-ending ending.Limit same = absurd (cc)
write_fault-ending ending.ReadFault same = absurd (cc)
write_fault-ending ending.WriteFault same = refl

-- an ending at which no read failed, and one at which no write did
abbrev pub IsNoReadFault : Ending → Type 0
IsNoReadFault ending.ReadFault = ⊥
IsNoReadFault e = Unit {0}

abbrev pub IsNoWriteFault : Ending → Type 0
IsNoWriteFault ending.WriteFault = ⊥
IsNoWriteFault e = Unit {0}

-- it is another than the fault
pub no_read_fault : {e : Ending} → IsNoReadFault e → e ≡ ending.ReadFault → ⊥
no_read_fault is same = subst (λ (e : Ending). IsNoReadFault e) same is

pub no_write_fault : {e : Ending} → IsNoWriteFault e → e ≡ ending.WriteFault → ⊥
no_write_fault is same = subst (λ (e : Ending). IsNoWriteFault e) same is

-- where handing on ended so or failed, no read did
pub either-no_read_fault : {R : Type 0} {e : Ending} {a : Ending} → (e ≡ a) ⊎ ((e ≡ ending.WriteFault) × R) → IsNoReadFault a → e ≡ ending.ReadFault → ⊥
either-no_read_fault (inl so) is same = no_read_fault is (sym so ∙ same)
either-no_read_fault (inr failed) is same = no_read_fault tt (sym failed.0 ∙ same)

pub ended_or_broken-no_read_fault : {e : Ending} → (e ≡ ending.End) ⊎ (e ≡ ending.WriteFault) → e ≡ ending.ReadFault → ⊥
ended_or_broken-no_read_fault (inl ended) same = no_read_fault tt (sym ended ∙ same)
ended_or_broken-no_read_fault (inr broken) same = no_read_fault tt (sym broken ∙ same)
