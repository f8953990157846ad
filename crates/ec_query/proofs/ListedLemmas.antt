-- Lists of properties, as far as there is room: one more property, and a run of them.
use Rattle.std.proofs.Common.{◌≡◌, ℕ, ◌+◌, ◌<◌, ◌≤◌, Bool, List, [], ◌∷◌, ◌++◌, length, set, take, drop, filter, sym, ap, subst, ◌∙◌, length-append, arith}
use Rattle.std.proofs.Math.Seq.{take-add}
use Rattle.std.proofs.lemmas.List.{take_all, take_more_set, take-append-le}
use Rattle.std.proofs.lemmas.List.Elements.{filter-append}
use Rattle.ec_terms.specs.declared.ids.PropId.{PropId}
use Rattle.ec_query.specs.declared.held_list.TheConstants.{MOST_LISTED}
use Rattle.ec_query.specs.Listed.{Listed, Lists}

-- ---- one more property

module _ (numbers : List PropId) (count : ℕ) (ps : List PropId) (p : PropId) (room : length numbers ≡ MOST_LISTED) (lists : Lists (record { count = count; first = take count numbers }) ps) where
  one_more : count + 1 ≡ length (ps ++ p ∷ [])
  one_more = omega (arith, lists.count, length-append ps (p ∷ []))

  -- where there is room its number is kept
  pub Lists-push_kept : count < MOST_LISTED → Lists (record { count = count + 1; first = take (count + 1) (set numbers count p) }) (ps ++ p ∷ [])
  Lists-push_kept free = record {
    count = one_more;
    first =
        take_more_set numbers count p (omega (arith, room, free))
        ∙ ap (λ front. front ++ p ∷ []) (lists.first ∙ take_all MOST_LISTED ps (omega (arith, lists.count, free)))
        ∙ sym (take_all MOST_LISTED (ps ++ p ∷ []) (omega (arith, one_more, free)));
  }

  -- where there is none it is only counted
  pub Lists-push_counted : MOST_LISTED ≤ count → Lists (record { count = count + 1; first = take (count + 1) numbers }) (ps ++ p ∷ [])
  Lists-push_counted full = record {
    count = one_more;
    first =
        take_all (count + 1) numbers (omega (arith, room, full)) ∙ sym (take_all count numbers (omega (arith, room, full)))
        ∙ lists.first ∙ sym (take-append-le MOST_LISTED ps (p ∷ []) (omega (arith, lists.count, full)));
  }

-- ---- a run, and all of them

-- the members before a place and a run from there, as far as they pass
pub filter-take_run : {X : Type 0} (p : X → Bool) (xs run : List X) (i : ℕ) → run ≡ take (length run) (drop i xs) → filter p (take (i + length run) xs) ≡ filter p (take i xs) ++ filter p run
filter-take_run p xs run i is =
    ap (filter p) (take-add i (length run) xs) ∙ filter-append p (take i xs) (take (length run) (drop i xs)) ∙ ap (λ ys. filter p (take i xs) ++ filter p ys) (sym is)

-- what lists some properties lists them by another name
pub Lists-renamed : (listed : Listed) {ps qs : List PropId} → ps ≡ qs → Lists listed ps → Lists listed qs
Lists-renamed listed same = subst (λ (all : List PropId). Lists listed all) same

-- where all have room, they are what is listed
pub Lists-whole : (listed : Listed) (ps : List PropId) → Lists listed ps → listed.count ≤ MOST_LISTED → listed.first ≡ ps
Lists-whole listed ps lists room = lists.first ∙ take_all MOST_LISTED ps (omega (arith, lists.count, room))
