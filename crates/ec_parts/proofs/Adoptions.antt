-- Properties that wait join the other parts one after the other, the last one first.
use Rattle.std.proofs.Common.{◌≡◌, ℤ, true, List, [], ◌∷◌, ◌++◌, Some, None, is_some, refl, sym, ap, subst, append_assoc, ◌∙◌}
use Rattle.std.specs.Prelude.{option_map}
use Rattle.std.proofs.lemmas.Bool.{false≢true}
use Rattle.ec_terms.specs.declared.ids.PropId.{PropId}
use Rattle.ec_terms.specs.declared.theory.Theory.{Theory}
use Rattle.ec_context.specs.Widened.{AreUnmentioned, KeepsAll, without_props}
use Rattle.ec_context.proofs.Keepings.{AreUnmentioned-push, AreUnmentioned-kept, AreUnmentioned-pop, KeepsAll-then, not_among, unmentioned-last}
use Rattle.ec_context.proofs.Tables.{prop_at-without_props, without_props-none, without_props-push}
use Rattle.ec_exclusive.specs.Added.{added_props}
use Rattle.ec_numbered.specs.PropSet.{are_ascending}
use Rattle.ec_store.specs.Table.{KeptProp, prop_at, mentions_at, without_prop}
use Rattle.ec_store.proofs.PropLemmas.{prop_at-without_other, prop_at-without_itself}
use Rattle.ec_parts.specs.Adoption.{without_waiting, StandForSomeBoth, KeepStanding, HasJoined, HasStayed, HasEntered}
use Rattle.ec_parts.specs.StandFor.{View, StandForBoth}
use Rattle.ec_parts.proofs.Entered.{HasEntered-none}
use Rattle.ec_parts.proofs.LinksByNumber.{IsOneToOne}
use Rattle.ec_parts.proofs.Waiting.{StandForBoth-joined, StandForBoth-stayed, without_last, last-apart}

-- one that nothing mentions is kept besides
HasEntered-push : (start before after : List KeptProp) (old fresh new : List PropId) (p : PropId) → before ≡ without_prop p.0 after → mentions_at p.0 after ≡ Some 0 → new ≡ fresh ++ p ∷ []
    → HasEntered start old before fresh → HasEntered start old after new
HasEntered-push start before after old fresh new p table none pushed entered =
    let free : prop_at p.0 before ≡ None = ap (prop_at p.0) table ∙ prop_at-without_itself p.0 after in
    let keeps : KeepsAll before after =
    (λ id some. sym (ap (prop_at id) table ∙ prop_at-without_other p.0 id after (λ same. false≢true (ap is_some (sym (ap (λ n. prop_at n before) same ∙ free)) ∙ some)))) in
    record {
      fresh = entered.fresh ++ p ∷ [];
      behind = pushed ∙ ap (λ ps. ps ++ p ∷ []) entered.behind ∙ append_assoc old entered.fresh (p ∷ []);
      kept = record {
        kept = KeepsAll-then start before after entered.kept.kept keeps;
        back = without_props-push entered.fresh p after ∙ ap (without_props entered.fresh) (sym table) ∙ entered.kept.back;
        unmentioned = AreUnmentioned-push entered.fresh p after (AreUnmentioned-kept entered.fresh before after keeps entered.kept.unmentioned) none (not_among entered.fresh p.0 before entered.kept.unmentioned free);
      };
    }

-- some of those that wait have joined, and the rest wait
pub record AreAdopted {T : Type 0} (rank : T → ℤ) (theory : Theory) (waiting : List PropId) (start : View T) (first rest : List PropId) (view : View T) (fresh : List PropId) : Type 0 where
  pub table : view.table ≡ start.table
  pub store : view.store ≡ start.store
  pub unmentioned : AreUnmentioned rest view.table
  pub some : StandForSomeBoth rank theory (without_waiting rest view)
  pub both : KeepStanding rank theory (without_waiting waiting start) (without_waiting rest view)
  pub entered : HasEntered (without_props waiting start.table) first (without_props rest view.table) fresh

module _ {T : Type 0} (rank : T → ℤ) (theory : Theory) (waiting : List PropId) (start : View T) (first : List PropId) where
  -- none has joined
  pub AreAdopted-none : AreUnmentioned waiting start.table → StandForSomeBoth rank theory (without_waiting waiting start) → AreAdopted rank theory waiting start first waiting start first
  AreAdopted-none unmentioned some = record {
    table = refl;
    store = refl;
    unmentioned = unmentioned;
    some = some;
    both = λ now soon tally few stand. stand;
    entered = HasEntered-none (without_props waiting start.table) first;
  }

  -- one more joins
  pub AreAdopted-more : (items : List PropId) (p : PropId) (old next : View T) (fresh new : List PropId) → IsOneToOne old.table → are_ascending (added_props old.neighbours.rows) ≡ true
      → AreAdopted rank theory waiting start first (items ++ p ∷ []) old fresh → next ≡ record old { neighbours = next.neighbours; points = next.points } → HasJoined rank theory p old next → new ≡ fresh ++ p ∷ []
      → AreAdopted rank theory waiting start first items next new
  AreAdopted-more items p old next fresh new one ascend so_far rest joined pushed =
      let table : next.table ≡ old.table = ap (λ (v : View T). v.table) rest in
      let joins = StandForBoth-joined rank theory items p old one so_far.unmentioned ascend next rest joined in
      record {
        table = table ∙ so_far.table;
        store = ap (λ (v : View T). v.store) rest ∙ so_far.store;
        unmentioned = AreUnmentioned-pop items p old.table next.table so_far.unmentioned (λ id other. ap (prop_at id) table);
        some = record { now = so_far.some.now; soon = so_far.some.soon; tally = so_far.some.tally; few = so_far.some.few; stand = joins so_far.some.now so_far.some.soon so_far.some.tally so_far.some.stand };
        both = λ now soon tally few stand. joins now soon tally (so_far.both now soon tally few stand);
        entered = subst (λ ks. HasEntered (without_props waiting start.table) first (without_props items ks) new) (sym table)
            (HasEntered-push (without_props waiting start.table) (without_props (items ++ p ∷ []) old.table) (without_props items old.table) first fresh new p (without_last items p old.table)
            (ap (option_map (λ (k : KeptProp). k.mentions)) (prop_at-without_props items p.0 old.table (last-apart items p old.table so_far.unmentioned)) ∙ unmentioned-last items p old.table so_far.unmentioned) pushed so_far.entered);
      }

  -- what the parts are once none waits
  pub record AreDone (view : View T) (fresh : List PropId) : Type 0 where
    pub both : KeepStanding rank theory (without_waiting waiting start) view
    pub entered : HasEntered (without_props waiting start.table) first view.table fresh

  -- all have joined
  pub AreDone-all : (rest : List PropId) (view : View T) (fresh : List PropId) → rest ≡ [] → AreAdopted rank theory waiting start first rest view fresh → AreDone view fresh
  AreDone-all rest view fresh none so_far =
      let same : without_props rest view.table ≡ view.table = ap (λ ps. without_props ps view.table) none ∙ without_props-none view.table in
      record {
        both = λ now soon tally few stand. subst (λ ks. StandForBoth rank theory now soon (record view { table = ks }) tally) same (so_far.both now soon tally few stand);
        entered = subst (λ ks. HasEntered (without_props waiting start.table) first ks fresh) same so_far.entered;
      }

  -- one could not join, and it and the rest are forgotten
  pub AreDone-less : (items : List PropId) (p : PropId) (old next : View T) (table : List KeptProp) (fresh new : List PropId) → AreAdopted rank theory waiting start first (items ++ p ∷ []) old fresh
      → next ≡ record old { neighbours = next.neighbours; points = next.points } → HasStayed theory old next → table ≡ without_props items (without_prop p.0 next.table) → new ≡ fresh → AreDone (record next { table = table }) new
  AreDone-less items p old next table fresh new so_far rest stayed is same =
      let left : without_props (items ++ p ∷ []) next.table ≡ table = without_props-push items p next.table ∙ sym is in
      let kept : next.table ≡ old.table = ap (λ (v : View T). v.table) rest in
      record {
        both = λ now soon tally few stand.
            subst (λ ks. StandForBoth rank theory now soon (record next { table = ks }) tally) left
            (StandForBoth-stayed rank theory (items ++ p ∷ []) old next rest stayed now soon tally (so_far.both now soon tally few stand));
        entered = subst (λ ks. HasEntered (without_props waiting start.table) first ks new) (ap (without_props (items ++ p ∷ [])) (sym kept) ∙ left)
            (subst (λ ps. HasEntered (without_props waiting start.table) first (without_props (items ++ p ∷ []) old.table) ps) (sym same) so_far.entered);
      }
