-- What is gathered of the touched identities, once it is in order, is the change.
use Rattle.std.proofs.Common.{◌≡◌, ◌≤◌, ℕ, ◌++◌, length, filter_map, reverse, ap, subst, ◌∙◌, arith}
use Rattle.std.specs.List.Sorted.{IsPermutation}
use Rattle.std.proofs.lemmas.List.Sorted.{length_permutation}
use Rattle.ec_batch.specs.NetChange.{HasRoom, coming, going}
use Rattle.ec_batch.proofs.NetChanges.{AreTouched-nets, IsChange-sorted, length-gathered, live_slots}
use Rattle.ec_batch.proofs.net_changes.net_change.Goals as goal

-- there is room for what is found among so many
room-for : {found most gathered sorted count capacity : ℕ} → found ≤ most → gathered ≡ found → sorted ≡ gathered → count ≤ capacity → count ≡ most → sorted ≤ capacity
room-for few same moved room many = omega arith

pub gather-requires-clause-room : goal.gather-requires-clause-room
gather-requires-clause-room g c = subst (λ n. HasRoom n c.in_ok-gathered.gathered) c.len-count.ensures.len c.in_ok-gathered.ensures.room

pub change_of-requires-clause-add : goal.change_of-requires-clause-add
change_of-requires-clause-add g c = c.in_ok-add.ensures.items

pub change_of-requires-clause-entries : goal.change_of-requires-clause-entries
change_of-requires-clause-entries g c = c.in_ok-entries.ensures.items

pub gather-requires-clause-live : goal.gather-requires-clause-live
gather-requires-clause-live g c = live_slots c.args.walk.now.nets c.len-count.ensures.unique c.requires.walked.1.to.nets c.len.ensures.slots

pub change_of-requires-clause-room : goal.change_of-requires-clause-room
change_of-requires-clause-room g c =
    let few = length-gathered (λ entry. coming g.T.Moment.rank c.args.parts.now.store.events entry.1) c.args.walk.now.nets.entries in
    let gathered = ap length (c.gather.ensures.coming ∙ ap (λ xs. xs ++ filter_map (λ entry. coming g.T.Moment.rank c.args.parts.now.store.events entry.1) (reverse c.args.walk.now.nets.entries)) c.in_ok-gathered.ensures.coming) in
    let moved = length_permutation c.gather.new.gathered.coming.items c.sort_coming.new.coming.items c.sort_coming.ensures.same in
    let room = c.in_ok-add.ensures.capacity in
    let many = c.len-count.ensures.len in room-for few gathered moved room many

pub change_of-requires-clause-entries_room : goal.change_of-requires-clause-entries_room
change_of-requires-clause-entries_room g c =
    let few = length-gathered (λ entry. coming g.T.Moment.rank c.args.parts.now.store.events entry.1) c.args.walk.now.nets.entries in
    let gathered = ap length (c.gather.ensures.coming ∙ ap (λ xs. xs ++ filter_map (λ entry. coming g.T.Moment.rank c.args.parts.now.store.events entry.1) (reverse c.args.walk.now.nets.entries)) c.in_ok-gathered.ensures.coming) in
    let moved = length_permutation c.gather.new.gathered.coming.items c.sort_coming.new.coming.items c.sort_coming.ensures.same in
    let room = c.in_ok-entries.ensures.capacity in
    let many = c.len-count.ensures.len in room-for few gathered moved room many

pub returns-clause-change : goal.returns-clause-change
returns-clause-change g c soon tally walked =
    let rank = g.T.Moment.rank in
    let events = c.args.parts.now.store.events in
    let entries = reverse c.args.walk.now.nets.entries in
    IsChange-sorted
    (AreTouched-nets c.args.walk.now.nets c.len-count.ensures.unique walked.nets walked.history c.len.ensures.history c.len.ensures.slots)
    c.sort_going.new.going.items c.sort_coming.new.coming.items
    (subst (λ xs. IsPermutation xs c.sort_going.new.going.items) (c.gather.ensures.going ∙ ap (λ xs. xs ++ filter_map (λ entry. going rank events entry.1) entries) c.in_ok-gathered.ensures.going) c.sort_going.ensures.same)
    (subst (λ xs. IsPermutation xs c.sort_coming.new.coming.items) (c.gather.ensures.coming ∙ ap (λ xs. xs ++ filter_map (λ entry. coming rank events entry.1) entries) c.in_ok-gathered.ensures.coming) c.sort_coming.ensures.same)
    c.sort_going.ensures.order c.sort_coming.ensures.order c.change_of.result c.change_of.ensures.remove c.change_of.ensures.add c.change_of.ensures.entries
