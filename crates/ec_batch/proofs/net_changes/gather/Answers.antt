-- One touched identity more.
use Rattle.std.proofs.Common.{◌≡◌, ◌+◌, ◌<◌, true, false, Option, Some, List, ℕ, [], ◌∷◌, ◌++◌, length, filter_map, reverse, append-nil, refl, sym, ap, subst, ◌∙◌, IfSome, IsSome, All, arith}
use Rattle.std.proofs.lemmas.Bool.{false≢true}
use Rattle.std.proofs.lemmas.List.Elements.{All-pop}
use Rattle.indexmap.specs.IndexMap.{index_map_len}
use Rattle.ec_store.specs.Store.{event_at}
use Rattle.ec_batch.specs.declared.net.Net.{Net}
use Rattle.ec_batch.specs.NetChange.{HasRoom, coming, going}
use Rattle.ec_batch.proofs.Counts.{count-less}
use Rattle.ec_batch.proofs.NetChanges.{All-in_front, gathered-next}
use Rattle.ec_batch.proofs.net_changes.gather.Goals as goal

-- a list is empty if nothing is found in it
empty-where : {X : Type 0} (xs : List X) → (0 < length xs → false ≡ true) → xs ≡ []
empty-where [] never = refl
empty-where (x ∷ xs) never = absurd (false≢true (never (omega arith)))

-- once nothing is left, all is gathered
gathered-end : {X Y : Type 0} (h : X → Option Y) (left : List X) (so_far whole : List Y) → left ≡ [] → so_far ++ filter_map h (reverse left) ≡ whole → so_far ≡ whole
gathered-end h left so_far whole none were = sym (append-nil so_far) ∙ ap (λ xs. so_far ++ filter_map h (reverse xs)) (sym none) ∙ were

pub loop-net-preserved : goal.loop-net-preserved
loop-net-preserved g c =
    let inv = c.loop-net.invariant in
    let rank = g.T.Moment.rank in
    let events = c.args.store.now.events in
    let front = c.pop.new.self.entries in
    let all_going = c.args.gathered.now.going.items ++ filter_map (λ entry. going rank events entry.1) (reverse c.args.nets.now.entries) in
    let all_coming = c.args.gathered.now.coming.items ++ filter_map (λ entry. coming rank events entry.1) (reverse c.args.nets.now.entries) in
    let popped = c.in-Some.ensures.entries in
    let less = c.in-Some.ensures.len in
    let one_less : index_map_len c.loop-net.nets ≡ index_map_len c.pop.new.self + 1 = sym less in
    record {
      going = gathered-next (λ entry. going rank events entry.1) front (c.in-Some.field-0-0, c.in-Some.net) c.loop-net.gathered.going.items c.gather_one.new.gathered.going.items all_going
          (ap (λ es. c.loop-net.gathered.going.items ++ filter_map (λ entry. going rank events entry.1) (reverse es)) (sym popped) ∙ inv.going) c.gather_one.ensures.going;
      coming = gathered-next (λ entry. coming rank events entry.1) front (c.in-Some.field-0-0, c.in-Some.net) c.loop-net.gathered.coming.items c.gather_one.new.gathered.coming.items all_coming
          (ap (λ es. c.loop-net.gathered.coming.items ++ filter_map (λ entry. coming rank events entry.1) (reverse es)) (sym popped) ∙ inv.coming) c.gather_one.ensures.coming;
      live = All-in_front (λ entry. IfSome entry.1.old (λ slot. IsSome (event_at slot events))) front ((c.in-Some.field-0-0, c.in-Some.net) ∷ [])
          (subst (All (λ entry. IfSome entry.1.old (λ slot. IsSome (event_at slot events)))) popped inv.live);
      room = c.gather_one.ensures.room (index_map_len c.pop.new.self) (subst (λ n. HasRoom n c.loop-net.gathered) one_less inv.room);
      steps = count-less _ _ _ c.gather_one.ensures.steps inv.steps one_less;
    }

pub gather_one-requires-clause-live : goal.gather_one-requires-clause-live
gather_one-requires-clause-live g c =
    let Lives : List ℕ × Net _ → Type 0 = λ entry. IfSome entry.1.old (λ slot. IsSome (event_at slot c.args.store.now.events)) in
    (All-pop Lives c.loop-net.nets.entries c.pop.new.self.entries (Some (c.in-Some.field-0-0, c.in-Some.net)) c.in-Some.ensures.entries c.loop-net.invariant.live).1

pub returns-clause-going : goal.returns-clause-going
returns-clause-going g c = gathered-end (λ entry. going g.T.Moment.rank c.args.store.now.events entry.1) c.loop-net.nets.entries _ _ (empty-where c.loop-net.nets.entries c.in_default.ensures.found.1) c.loop-net.invariant.going

pub returns-clause-coming : goal.returns-clause-coming
returns-clause-coming g c =
    gathered-end (λ entry. coming g.T.Moment.rank c.args.store.now.events entry.1) c.loop-net.nets.entries _ _ (empty-where c.loop-net.nets.entries c.in_default.ensures.found.1) c.loop-net.invariant.coming
