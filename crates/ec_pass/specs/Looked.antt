-- What the entries of an event do at the present instant, by number: which properties they start and end, and their bits in a label.
use Rattle.std.specs.Prelude.{◌≡◌, ℕ, ℤ, Bool, if◌then◌else◌, List, [], ◌∷◌, ◌++◌, flat_map}
use Rattle.ec_terms.specs.declared.ids.PropId.{PropId}
use Rattle.ec_terms.specs.declared.theory.Kind.{Kind}
use Rattle.ec_terms.specs.declared.theory.Kind.TheVariants.{Initiates, Terminates}
use Rattle.ec_exclusive.specs.CurrentProps.{MemberForms, is_in}
use Rattle.ec_context.specs.Activity.{literals_agree}
use Rattle.ec_context.specs.declared.entry.Entry.{Entry}
use Rattle.ec_cone.specs.Cone.{has_number}
use Rattle.ec_pass.specs.declared.present.Present.{Present}

-- an entry is active, where these properties are current
abbrev pub is_active_now : MemberForms → ℤ → Entry → Bool
is_active_now now t entry = literals_agree (λ n _. is_in n now) t entry.literals

-- the property that a change of the one kind makes, and not of the other
abbrev pub if_initiates : Kind → PropId → List PropId
if_initiates Initiates head = head ∷ []
if_initiates Terminates head = []

abbrev pub if_terminates : Kind → PropId → List PropId
if_terminates Initiates head = []
if_terminates Terminates head = head ∷ []

-- the property that an active entry starts, and the one that it ends
abbrev pub started_by : MemberForms → ℤ → Entry → List PropId
started_by now t entry = if is_active_now now t entry then if_initiates entry.kind entry.head else []

abbrev pub ended_by : MemberForms → ℤ → Entry → List PropId
ended_by now t entry = if is_active_now now t entry then if_terminates entry.kind entry.head else []

-- `1` for an active entry, `0` for another
abbrev pub bit_for : Bool → ℕ
bit_for active = if active then 49 else 48

-- the bit of an entry of the cone, and nothing for another
abbrev pub bits_by : List Bool → MemberForms → ℤ → Entry → List ℕ
bits_by cone now t entry = if has_number cone entry.rule then bit_for (is_active_now now t entry) ∷ [] else []

-- The entries were looked at: what they start and end is noted, and the bits of those in the cone are added; else all is as it was.
pub record HasLooked (before after : Present) (cone : List Bool) (t : ℤ) (entries : List Entry) (bits_before bits_after : List ℕ) : Type 0 where
  pub props : after.props ≡ before.props
  pub current : after.current ≡ before.current
  pub started : after.started.items ≡ before.started.items ++ flat_map (started_by before.current t) entries
  pub ended : after.ended.items ≡ before.ended.items ++ flat_map (ended_by before.current t) entries
  pub bits : bits_after ≡ bits_before ++ flat_map (bits_by cone before.current t) entries
