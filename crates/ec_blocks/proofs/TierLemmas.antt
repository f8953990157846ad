-- A list in turned groups: what stands at a place, and what an edit of one group leaves.
use Rattle.std.proofs.Common.{◌≡◌, ℕ, ◌+◌, ◌-◌, ◌*◌, ◌/◌, ◌%◌, ◌<◌, ◌≤◌, zero, suc, Bool, true, false, if◌then◌else◌, List, [], ◌∷◌, ◌++◌, Option, Some, None, length, get_or, take, drop, set, refl, sym, ap, ap₂, ⊎_elim, ◌∙◌, append_assoc, length-append, length-drop, length-set, add-one, arith}
use Rattle.std.specs.Prelude.{nat_lt, slice_get}
use borrow.Rule.Slice.PartMut.{put_mid}
use Rattle.std.specs.List.{insert, remove, list_all}
use Rattle.std.proofs.lemmas.Bool.{cases_lt, ltb-true, ltb-false}
use Rattle.std.proofs.lemmas.Bool.Decides.{nat_tests}
use Rattle.std.proofs.lemmas.List.{append-nil, length_push, length-take-le, take-append-drop, drop-drop, take_at, drop_at, take_all, drop_all, drop_more, take_more_set, get_or_at, set_at, take-append-le, drop-append-le, take-set-le, drop-set-lt, drop-set-add, get_or-take, get_or-drop, get_or_append_left, get_or-append_right, set-append_left, set-append_right, set-get_or, set_split}
use Rattle.std.proofs.lemmas.List.Edits.{insert-append_left, insert-append_right, remove-append_right, length-insert, get_or-insert_at, paste_all}
use Rattle.std.proofs.lemmas.Slice.{put_mid-paste}
use Rattle.std.proofs.lemmas.Option.{slice_get-get_or, slice_get_read}
use Rattle.ec_lists.proofs.Booleans.{and-left, and-right}
use Rattle.ec_blocks.specs.Tiers.{turned, unrolled, place_of}
use Rattle.ec_blocks.proofs.ChainLemmas.{list_all-set}

module _ {X : Type 0} where
  -- a list of no length
  none : (xs : List X) → length xs ≡ 0 → xs ≡ []
  none [] is = refl
  none (x ∷ xs) is = absurd (omega arith)

  -- a member of those in front is another one
  take-set-in : (n : ℕ) (xs : List X) (i : ℕ) (x : X) → take n (set xs i x) ≡ set (take n xs) i x
  take-set-in zero xs i x = refl
  take-set-in (suc n) [] i x = refl
  take-set-in (suc n) (y ∷ xs) zero x = refl
  take-set-in (suc n) (y ∷ xs) (suc i) x = ap (λ ys. y ∷ ys) (take-set-in n xs i x)

  -- ---- one ring

  pub turned-length : (h : ℕ) (ring : List X) → length (turned h ring) ≡ length ring
  turned-length h ring = omega (arith, length-append (drop h ring) (take h ring), length-append (take h ring) (drop h ring), ap length (take-append-drop h ring))

  pub get-turned : (h j : ℕ) (ring : List X) (d : X) → length ring ≡ 64 → h < 64 → j < 64 → get_or (turned h ring) j d ≡ get_or ring ((h + j) % 64) d
  get-turned h j ring d full head within =
      ⊎_elim (λ less. get_or_append_left (drop h ring) (take h ring) d j (omega (arith, length-drop h ring)) ∙ get_or-drop h ring j d ∙ ap (λ n. get_or ring n d) (omega arith))
      (λ more. get_or-append_right (drop h ring) (take h ring) (64 - h) j d (omega (arith, length-drop h ring)) (omega arith) ∙ get_or-take h ring (j - (64 - h)) d (omega arith)
      ∙ ap (λ n. get_or ring n d) (omega arith)) (cases_lt (h + j) 64)

  pub set-turned : (h j : ℕ) (ring : List X) (x : X) → length ring ≡ 64 → h < 64 → j < 64 → set (turned h ring) j x ≡ turned h (set ring ((h + j) % 64) x)
  set-turned h j ring x full head within = ⊎_elim low high (cases_lt (h + j) 64)
    where
      low : h + j < 64 → set (turned h ring) j x ≡ turned h (set ring ((h + j) % 64) x)
      low less =
          set-append_left (drop h ring) (take h ring) j x (omega (arith, length-drop h ring))
          ∙ ap₂ (λ us vs. us ++ vs) (sym (drop-set-add h ring j x)) (sym (take-set-le h ring (h + j) x (omega arith)))
          ∙ ap (λ n. turned h (set ring n x)) (omega arith)

      high : 64 ≤ h + j → set (turned h ring) j x ≡ turned h (set ring ((h + j) % 64) x)
      high more =
          set-append_right (drop h ring) (take h ring) (64 - h) j x (omega (arith, length-drop h ring)) (omega arith)
          ∙ ap₂ (λ us vs. us ++ vs) (sym (drop-set-lt h ring (j - (64 - h)) x (omega arith))) (sym (take-set-in h ring (j - (64 - h)) x))
          ∙ ap (λ n. turned h (set ring n x)) (omega arith)

  -- in a part that lies straight, one comes in, and the last goes
  pub ring-in : (ring behind put : List X) (at : ℕ) (x out e : X) → at < length ring →
      behind ≡ drop (length (drop at ring) - 1) (drop at ring) ++ take (length (drop at ring) - 1) (drop at ring) →
      put ≡ take at ring ++ (behind ++ drop (at + (length ring - at)) ring) → out ≡ get_or put at e → insert ring at x ≡ set put at x ++ out ∷ []
  ring-in ring behind put at x out e within turned_is put_is out_is =
      let m : ℕ = length (drop at ring) in
      let count : m ≡ length ring - at = length-drop at ring in
      let last : X = get_or (drop at ring) (m - 1) x in
      let front : List X = take (m - 1) (drop at ring) in
      let end : drop (m - 1) (drop at ring) ≡ last ∷ [] =
      drop_more (drop at ring) (m - 1) x (omega arith) ∙ ap (λ us. last ∷ us) (drop_all (m - 1 + 1) (drop at ring) (omega arith)) in
      let all : front ++ last ∷ [] ≡ drop at ring = ap (λ us. front ++ us) (sym end) ∙ take-append-drop (m - 1) (drop at ring) in
      let here : put ≡ take at ring ++ last ∷ front =
      put_is ∙ ap (λ us. take at ring ++ us)
      (ap₂ (λ us vs. us ++ vs) (turned_is ∙ ap (λ us. us ++ front) end) (drop_all (at + (length ring - at)) ring (omega arith)) ∙ append-nil (last ∷ front)) in
      let member : out ≡ last = out_is ∙ ap (λ us. get_or us at e) here ∙ get_or_at (take at ring) last front e at (length-take-le at ring (omega arith)) in
      sym (ap₂ (λ us o. us ++ o ∷ []) (ap (λ us. set us at x) here ∙ set_at (take at ring) last front x at (length-take-le at ring (omega arith))) member
      ∙ append_assoc (take at ring) (x ∷ front) (last ∷ []) ∙ ap (λ us. take at ring ++ x ∷ us) all)

  -- in a ring, one comes in among those before the first
  pub ring-in-front : (h : ℕ) (ring front : List X) (at : ℕ) (x out : X) → length ring ≡ 64 → h < 64 → 64 - h ≤ at → length front ≡ h →
      insert (take h ring) (at - (64 - h)) x ≡ front ++ out ∷ [] → insert (turned h ring) at x ≡ turned h (front ++ drop h ring) ++ out ∷ []
  ring-in-front h ring front at x out full head from same made =
      insert-append_right (drop h ring) (take h ring) (64 - h) at x (omega (arith, length-drop h ring)) from
      ∙ ap (λ us. drop h ring ++ us) made ∙ sym (append_assoc (drop h ring) front (out ∷ []))
      ∙ ap₂ (λ us vs. (us ++ vs) ++ out ∷ []) (sym (drop_at front (drop h ring) h same)) (sym (take_at front (drop h ring) h same))

  -- or among those from the first on, the last of which then comes in before it
  pub ring-in-behind : (h : ℕ) (ring front behind : List X) (at : ℕ) (x mid out : X) → length ring ≡ 64 → h < 64 → at < 64 - h → length front ≡ h →
      insert (drop h ring) at x ≡ behind ++ mid ∷ [] → insert (take h ring) 0 mid ≡ front ++ out ∷ [] →
      insert (turned h ring) at x ≡ turned h (front ++ behind) ++ out ∷ []
  ring-in-behind h ring front behind at x mid out full head before same made carried =
      insert-append_left (drop h ring) (take h ring) at x (omega (arith, length-drop h ring))
      ∙ ap (λ us. us ++ take h ring) made ∙ append_assoc behind (mid ∷ []) (take h ring)
      ∙ ap (λ us. behind ++ us) carried ∙ sym (append_assoc behind front (out ∷ []))
      ∙ ap₂ (λ us vs. (us ++ vs) ++ out ∷ []) (sym (drop_at front behind h same)) (sym (take_at front behind h same))

  -- one goes, and one comes in at the end
  pub ring-out : (ring behind put : List X) (at : ℕ) (x out e : X) → length ring ≡ 64 → at < 64 → behind ≡ drop 1 (drop at ring) ++ take 1 (drop at ring) →
      put ≡ take at ring ++ (behind ++ drop (at + (length ring - at)) ring) → out ≡ get_or put 63 e → ring ++ x ∷ [] ≡ insert (set put 63 x) at out
  ring-out ring behind put at x out e full within turned_is put_is out_is =
      let front : List X = take at ring in
      let others : List X = drop (at + 1) ring in
      let member : X = get_or ring at x in
      let there : drop at ring ≡ member ∷ others = drop_more ring at x (omega arith) in
      let here : put ≡ (front ++ others) ++ member ∷ [] =
      put_is ∙ ap₂ (λ us vs. front ++ (us ++ vs)) (turned_is ∙ ap (λ us. drop 1 us ++ take 1 us) there) (drop_all (at + (length ring - at)) ring (omega arith))
      ∙ ap (λ us. front ++ us) (append-nil (others ++ member ∷ [])) ∙ sym (append_assoc front others (member ∷ [])) in
      let long : length (front ++ others) ≡ 63 = omega (arith, length-append front others, length-take-le at ring (omega arith), length-drop (at + 1) ring) in
      let gone : out ≡ member = out_is ∙ ap (λ us. get_or us 63 e) here ∙ get_or_at (front ++ others) member [] e 63 long in
      let new : set put 63 x ≡ front ++ (others ++ x ∷ []) =
      ap (λ us. set us 63 x) here ∙ set_at (front ++ others) member [] x 63 long ∙ append_assoc front others (x ∷ []) in
      let count : length front ≡ at = length-take-le at ring (omega arith) in
      sym (ap₂ (λ us o. insert us at o) new gone
      ∙ ap₂ (λ us vs. us ++ member ∷ vs) (take_at front (others ++ x ∷ []) at count) (drop_at front (others ++ x ∷ []) at count)
      ∙ sym (append_assoc front (member ∷ others) (x ∷ []))
      ∙ ap (λ us. us ++ x ∷ []) (ap (λ us. front ++ us) (sym there) ∙ take-append-drop at ring))

  -- the first goes, and one comes in at the end
  pub ring-first : (ring : List X) (head at : ℕ) (x out e : X) → length ring ≡ 64 → head < 64 → at ≡ 0 → out ≡ get_or ring head e →
      turned head ring ++ x ∷ [] ≡ insert (turned ((head + 1) % 64) (set ring head x)) at out
  ring-first ring head at x out e full within none is =
      let rest : turned ((head + 1) % 64) (set ring head x) ≡ drop (head + 1) ring ++ (take head ring ++ x ∷ []) = ⊎_elim low high (cases_lt (head + 1) 64) in
      ap (λ us. (us ++ take head ring) ++ x ∷ []) (drop_more ring head e (omega arith) ∙ ap (λ o. o ∷ drop (head + 1) ring) (sym is))
      ∙ ap (λ us. out ∷ us) (append_assoc (drop (head + 1) ring) (take head ring) (x ∷ []) ∙ sym rest)
      ∙ ap (λ n. insert (turned ((head + 1) % 64) (set ring head x)) n out) (sym none)
    where
      low : head + 1 < 64 → turned ((head + 1) % 64) (set ring head x) ≡ drop (head + 1) ring ++ (take head ring ++ x ∷ [])
      low less =
          ap (λ n. turned n (set ring head x)) (omega arith)
          ∙ ap₂ (λ us vs. us ++ vs) (drop-set-lt (head + 1) ring head x (omega arith)) (take_more_set ring head x (omega arith))

      high : 64 ≤ head + 1 → turned ((head + 1) % 64) (set ring head x) ≡ drop (head + 1) ring ++ (take head ring ++ x ∷ [])
      high more =
          let first : (head + 1) % 64 ≡ 0 = omega arith in
          ap (λ n. turned n (set ring head x)) first ∙ append-nil (set ring head x)
          ∙ sym (take_all (head + 1) (set ring head x) (omega (arith, length-set ring head x))) ∙ take_more_set ring head x (omega arith)
          ∙ ap (λ us. us ++ (take head ring ++ x ∷ [])) (sym (drop_all (head + 1) ring (omega arith)))

  -- what a vector holds after its slice was written
  pub whole : (n : ℕ) (xs ys : List X) → length xs ≡ n → take n (xs ++ drop (length xs) ys) ≡ xs
  whole n xs ys same = take_at xs (drop (length xs) ys) n same

  -- what a slice holds after a part of it was written
  pub put-is : (a k : ℕ) (xs ys : List X) → length ys ≡ k → put_mid a k xs ys ≡ take a xs ++ (ys ++ drop (a + k) xs)
  put-is a k xs ys same = put_mid-paste a k xs ys ys k refl refl (sym same) ∙ paste_all xs a ys k (sym same)

  pub group-put : (ms ring : List X) (first : ℕ) → length ring ≡ 64 → put_mid first (first + 64 - first) ms ring ≡ take first ms ++ (ring ++ drop (first + 64) ms)
  group-put ms ring first full = put-is first (first + 64 - first) ms ring (omega arith) ∙ ap (λ n. take first ms ++ (ring ++ drop n ms)) (omega arith)

  pub part-put : (ms ring : List X) (first : ℕ) → first + 64 ≤ length ms → length ring ≡ 64 → take 64 (drop first (put_mid first (first + 64 - first) ms ring)) ≡ ring
  part-put ms ring first within full =
      ap (λ us. take 64 (drop first us)) (group-put ms ring first full)
      ∙ ap (take 64) (drop_at (take first ms) (ring ++ drop (first + 64) ms) first (length-take-le first ms (omega arith))) ∙ take_at ring (drop (first + 64) ms) 64 full

  -- what a ring holds after those from a place on were written, or those before it
  pub behind-put : (h : ℕ) (ring behind : List X) → h ≤ length ring → length behind ≡ length ring - h → put_mid h (length ring - h) ring behind ≡ take h ring ++ behind
  behind-put h ring behind within same =
      put-is h (length ring - h) ring behind same
      ∙ ap (λ us. take h ring ++ us) (ap (λ us. behind ++ us) (drop_all (h + (length ring - h)) ring (omega arith)) ∙ append-nil behind)

  pub front-put : (h : ℕ) (ring front : List X) → length front ≡ h → put_mid 0 (h - 0) ring front ≡ front ++ drop h ring
  front-put h ring front same = put-is 0 (h - 0) ring front (omega (arith, same)) ∙ ap (λ n. front ++ drop n ring) (omega arith)

  -- what a vector holds after its last group was turned
  pub turned-last : (ms read new : List X) (h n m : ℕ) → read ≡ ms → new ≡ take (length read - 64) read ++ turned h (drop (length read - 64) read) → n ≡ length ms - 64 → m ≡ length ms →
      take m (new ++ drop (length new) ms) ≡ take n ms ++ turned h (drop n ms)
  turned-last ms read new h n m same made n_is m_is =
      let is : new ≡ take n ms ++ turned h (drop n ms) =
      made ∙ ap (λ us. take (length us - 64) us ++ turned h (drop (length us - 64) us)) same ∙ ap (λ i. take i ms ++ turned h (drop i ms)) (sym n_is) in
      let count : length (take n ms ++ turned h (drop n ms)) ≡ length ms =
      omega (arith, length-append (take n ms) (turned h (drop n ms)), turned-length h (drop n ms), length-append (take n ms) (drop n ms), ap length (take-append-drop n ms)) in
      whole m new ms (ap length is ∙ count ∙ sym m_is) ∙ is

  -- a member taken out and put back
  pub put-back : (xs : List X) (i : ℕ) (x : X) → i < length xs → slice_get xs i ≡ Some x → insert (remove xs i) i x ≡ xs
  put-back xs i x within there =
      ap₂ (λ us vs. us ++ x ∷ vs) (take_at (take i xs) (drop (suc i) xs) i (length-take-le i xs (omega arith))) (drop_at (take i xs) (drop (suc i) xs) i (length-take-le i xs (omega arith)))
      ∙ ap₂ (λ y ys. take i xs ++ y ∷ ys) (same x (get_or xs i x) (sym there ∙ slice_get-get_or xs i x within)) (ap (λ n. drop n xs) (sym (add-one i)))
      ∙ ap (λ us. take i xs ++ us) (sym (drop_more xs i x within)) ∙ take-append-drop i xs
    where
      from : Option X → X
      from (Some y) = y
      from None = x

      same : (y z : X) → Some y ≡ Some z → y ≡ z
      same y z is = ap from is

  -- a member put in and taken out
  pub put-in-out : (ys xs : List X) (k : ℕ) (x : X) → k ≤ length ys → insert ys k x ≡ xs → ys ≡ remove xs k
  put-in-out ys xs k x within is =
      let front : length (take k ys) ≡ k = length-take-le k ys within in
      sym (take-append-drop k ys)
      ∙ sym (ap₂ (λ us vs. us ++ vs) (take_at (take k ys) (x ∷ drop k ys) k front)
      (ap (λ n. drop n (insert ys k x)) (sym (add-one k)) ∙ sym (drop-drop 1 k (insert ys k x)) ∙ ap (drop 1) (drop_at (take k ys) (x ∷ drop k ys) k front)))
      ∙ ap (λ us. remove us k) is

  pub put-in-get : (ys xs : List X) (k : ℕ) (x : X) → k ≤ length ys → insert ys k x ≡ xs → slice_get xs k ≡ Some x
  put-in-get ys xs k x within is =
      ap (λ us. slice_get us k) (sym is)
      ∙ slice_get-get_or (insert ys k x) k x (omega (arith, length-insert ys k x within)) ∙ ap Some (get_or-insert_at ys k x x within)

  -- ---- all groups

  pub unrolled-length : (hs : List ℕ) (ms : List X) → length (unrolled hs ms) ≡ length ms
  unrolled-length [] ms = refl
  unrolled-length (h ∷ hs) ms =
      omega (
        arith,
        length-append (turned h (take 64 ms)) (unrolled hs (drop 64 ms)),
        turned-length h (take 64 ms),
        unrolled-length hs (drop 64 ms),
        length-append (take 64 ms) (drop 64 ms),
        ap length (take-append-drop 64 ms),
      )

  -- what lies behind all groups lies straight
  pub unrolled-behind : (hs : List ℕ) (front behind : List X) → length front ≡ 64 * length hs → unrolled hs (front ++ behind) ≡ unrolled hs front ++ behind
  unrolled-behind [] front behind same = refl
  unrolled-behind (h ∷ hs) front behind same =
      ap₂ (λ us vs. turned h us ++ vs) (take-append-le 64 front behind (omega arith))
      (ap (unrolled hs) (drop-append-le 64 front behind (omega arith)) ∙ unrolled-behind hs (drop 64 front) behind (omega (arith, length-drop 64 front)))
      ∙ sym (append_assoc (turned h (take 64 front)) (unrolled hs (drop 64 front)) behind)

  -- one group between others
  pub regrouped : (hs : List ℕ) (h : ℕ) (more : List ℕ) (front ring behind : List X) → length front ≡ 64 * length hs → length ring ≡ 64 →
      unrolled (hs ++ h ∷ more) (front ++ (ring ++ behind)) ≡ unrolled hs front ++ (turned h ring ++ unrolled more behind)
  regrouped [] h more front ring behind same full =
      let empty : front ≡ [] = none front (omega arith) in
      ap (λ us. unrolled (h ∷ more) (us ++ (ring ++ behind))) empty
      ∙ ap₂ (λ us vs. turned h us ++ unrolled more vs) (take_at ring behind 64 full) (drop_at ring behind 64 full)
      ∙ ap (λ us. us ++ (turned h ring ++ unrolled more behind)) (sym empty)
  regrouped (g ∷ hs) h more front ring behind same full =
      ap₂ (λ us vs. turned g us ++ vs) (take-append-le 64 front (ring ++ behind) (omega arith))
      (ap (unrolled (hs ++ h ∷ more)) (drop-append-le 64 front (ring ++ behind) (omega arith))
      ∙ regrouped hs h more (drop 64 front) ring behind (omega (arith, length-drop 64 front)) full)
      ∙ sym (append_assoc (turned g (take 64 front)) (unrolled hs (drop 64 front)) (turned h ring ++ unrolled more behind))

  -- a member put into one part, which pushes another one out behind this part
  inserted-within : (p q q' s : List X) (k n e : ℕ) (x out : X) → length p ≡ n → n ≤ k → k ≤ n + length q → insert q (k - n) x ≡ q' ++ out ∷ [] → e ≡ n + length q' →
      insert (p ++ (q ++ s)) k x ≡ insert (p ++ (q' ++ s)) e out
  inserted-within p q q' s k n e x out front from to made end =
      insert-append_right p (q ++ s) n k x front from
      ∙ ap (λ zs. p ++ zs) (insert-append_left q s (k - n) x (omega arith) ∙ ap (λ zs. zs ++ s) made ∙ append_assoc q' (out ∷ []) s
      ∙ ap₂ (λ us vs. us ++ out ∷ vs) (sym (take_at q' s (e - n) (omega arith))) (sym (drop_at q' s (e - n) (omega arith))))
      ∙ sym (insert-append_right p (q' ++ s) n e out front (omega arith))

  module _ (hs : List ℕ) (ms : List X) (g f e : ℕ) (within : g < length hs) (full : 64 * length hs ≤ length ms) (at : f ≡ 64 * g) (end : e ≡ f + 64) where
    parts : ms ≡ take f ms ++ (take 64 (drop f ms) ++ drop e ms)
    parts =
        sym (take-append-drop f ms)
        ∙ ap (λ zs. take f ms ++ zs) (sym (take-append-drop 64 (drop f ms)) ∙ ap (λ zs. take 64 (drop f ms) ++ zs) (drop-drop 64 f ms ∙ ap (λ n. drop n ms) (sym end)))

    front-length : length (unrolled (take g hs) (take f ms)) ≡ f
    front-length = unrolled-length (take g hs) (take f ms) ∙ length-take-le f ms (omega arith)

    pub ring-length : length (take 64 (drop f ms)) ≡ 64
    ring-length = length-take-le 64 (drop f ms) (omega (arith, length-drop f ms))

    -- the group, and what is around it
    group-is : (h : ℕ) (ring : List X) → length ring ≡ 64 →
        unrolled (set hs g h) (take f ms ++ (ring ++ drop e ms)) ≡ unrolled (take g hs) (take f ms) ++ (turned h ring ++ unrolled (drop (suc g) hs) (drop e ms))
    group-is h ring len =
        ap (λ gs. unrolled gs (take f ms ++ (ring ++ drop e ms))) (set_split hs g h within)
        ∙ regrouped (take g hs) h (drop (suc g) hs) (take f ms) ring (drop e ms) (omega (arith, length-take-le f ms (omega arith), length-take-le g hs (omega arith))) len

    group-was : unrolled hs ms ≡ unrolled (take g hs) (take f ms) ++ (turned (get_or hs g 0) (take 64 (drop f ms)) ++ unrolled (drop (suc g) hs) (drop e ms))
    group-was = ap₂ (λ gs us. unrolled gs us) (sym (set-get_or hs g 0)) parts ∙ group-is (get_or hs g 0) (take 64 (drop f ms)) ring-length

    module _ (k : ℕ) (from : f ≤ k) (to : k < e) (head : get_or hs g 0 < 64) where
      turned-within : k - f < length (turned (get_or hs g 0) (take 64 (drop f ms)))
      turned-within = omega (arith, turned-length (get_or hs g 0) (take 64 (drop f ms)), ring-length)

      -- a member of the group
      pub get-in : (d : X) → get_or (unrolled hs ms) k d ≡ get_or ms (f + (get_or hs g 0 + (k - f)) % 64) d
      get-in d =
          ap (λ us. get_or us k d) group-was
          ∙ get_or-append_right (unrolled (take g hs) (take f ms)) (turned (get_or hs g 0) (take 64 (drop f ms)) ++ unrolled (drop (suc g) hs) (drop e ms)) f k d front-length from
          ∙ get_or_append_left (turned (get_or hs g 0) (take 64 (drop f ms))) (unrolled (drop (suc g) hs) (drop e ms)) d (k - f) turned-within
          ∙ get-turned (get_or hs g 0) (k - f) (take 64 (drop f ms)) d ring-length head (omega arith)
          ∙ get_or-take 64 (drop f ms) ((get_or hs g 0 + (k - f)) % 64) d (omega arith)
          ∙ get_or-drop f ms ((get_or hs g 0 + (k - f)) % 64) d

      -- another member in its place
      pub set-in : (x : X) → unrolled hs (set ms (f + (get_or hs g 0 + (k - f)) % 64) x) ≡ set (unrolled hs ms) k x
      set-in x =
          let j : ℕ = (get_or hs g 0 + (k - f)) % 64 in
          let ring : List X = take 64 (drop f ms) in
          let behind : List X = unrolled (drop (suc g) hs) (drop e ms) in
          let put : set ms (f + j) x ≡ take f ms ++ (set ring j x ++ drop e ms) =
          ap (λ us. set us (f + j) x) parts ∙ set-append_right (take f ms) (ring ++ drop e ms) f (f + j) x (length-take-le f ms (omega arith)) (omega arith)
          ∙ ap (λ n. take f ms ++ set (ring ++ drop e ms) n x) (omega arith)
          ∙ ap (λ us. take f ms ++ us) (set-append_left ring (drop e ms) j x (omega (arith, ring-length))) in
          ap₂ (λ gs us. unrolled gs us) (sym (set-get_or hs g 0)) put
          ∙ group-is (get_or hs g 0) (set ring j x) (length-set ring j x ∙ ring-length)
          ∙ ap (λ us. unrolled (take g hs) (take f ms) ++ (us ++ behind)) (sym (set-turned (get_or hs g 0) (k - f) ring x ring-length head (omega arith)))
          ∙ ap (λ us. unrolled (take g hs) (take f ms) ++ us) (sym (set-append_left (turned (get_or hs g 0) ring) behind (k - f) x turned-within))
          ∙ sym (set-append_right (unrolled (take g hs) (take f ms)) (turned (get_or hs g 0) ring ++ behind) f k x front-length from)
          ∙ ap (λ us. set us k x) (sym group-was)

      -- one comes in, and another one goes out behind
      pub shifted-in : (h : ℕ) (ring : List X) (x out : X) → length ring ≡ 64 → insert (turned (get_or hs g 0) (take 64 (drop f ms))) (k - f) x ≡ turned h ring ++ out ∷ [] →
          insert (unrolled hs ms) k x ≡ insert (unrolled (set hs g h) (take f ms ++ (ring ++ drop e ms))) e out
      shifted-in h ring x out len made =
          ap (λ us. insert us k x) group-was
          ∙ inserted-within (unrolled (take g hs) (take f ms)) (turned (get_or hs g 0) (take 64 (drop f ms))) (turned h ring) (unrolled (drop (suc g) hs) (drop e ms)) k f e x out front-length from
          (omega (arith, turned-within)) made (omega (arith, turned-length h ring))
          ∙ ap (λ us. insert us e out) (sym (group-is h ring len))

      -- one goes out, and another one comes in behind
      pub shifted-out : (h : ℕ) (ring : List X) (x out : X) → length ring ≡ 64 → turned (get_or hs g 0) (take 64 (drop f ms)) ++ x ∷ [] ≡ insert (turned h ring) (k - f) out →
          insert (unrolled hs ms) e x ≡ insert (unrolled (set hs g h) (take f ms ++ (ring ++ drop e ms))) k out
      shifted-out h ring x out len made =
          ap (λ us. insert us e x) group-was
          ∙ sym (inserted-within (unrolled (take g hs) (take f ms)) (turned h ring) (turned (get_or hs g 0) (take 64 (drop f ms))) (unrolled (drop (suc g) hs) (drop e ms)) k f e out x front-length from
          (omega (arith, turned-length h ring)) (sym made) (omega (arith, turned-length (get_or hs g 0) (take 64 (drop f ms)), ring-length)))
          ∙ ap (λ us. insert us k out) (sym (group-is h ring len))

  -- ---- behind all groups

  module _ (hs : List ℕ) (ms : List X) (n : ℕ) (is : n ≡ 64 * length hs) (full : n ≤ length ms) where
    straight : unrolled hs ms ≡ unrolled hs (take n ms) ++ drop n ms
    straight = ap (unrolled hs) (sym (take-append-drop n ms)) ∙ unrolled-behind hs (take n ms) (drop n ms) (length-take-le n ms full ∙ is)

    front : length (unrolled hs (take n ms)) ≡ n
    front = unrolled-length hs (take n ms) ∙ length-take-le n ms full

    pub get-straight : (k : ℕ) (d : X) → n ≤ k → get_or (unrolled hs ms) k d ≡ get_or ms k d
    get-straight k d from =
        ap (λ us. get_or us k d) straight ∙ get_or-append_right (unrolled hs (take n ms)) (drop n ms) n k d front from
        ∙ get_or-drop n ms (k - n) d ∙ ap (λ m. get_or ms m d) (omega arith)

    pub set-straight : (k : ℕ) (x : X) → n ≤ k → unrolled hs (set ms k x) ≡ set (unrolled hs ms) k x
    set-straight k x from =
        ap (unrolled hs) (ap (λ us. set us k x) (sym (take-append-drop n ms)) ∙ set-append_right (take n ms) (drop n ms) n k x (length-take-le n ms full) from)
        ∙ unrolled-behind hs (take n ms) (set (drop n ms) (k - n) x) (length-take-le n ms full ∙ is)
        ∙ sym (set-append_right (unrolled hs (take n ms)) (drop n ms) n k x front from) ∙ ap (λ us. set us k x) (sym straight)

    pub insert-straight : (k : ℕ) (x : X) → n ≤ k → unrolled hs (insert ms k x) ≡ insert (unrolled hs ms) k x
    insert-straight k x from =
        ap (unrolled hs) (ap (λ us. insert us k x) (sym (take-append-drop n ms)) ∙ insert-append_right (take n ms) (drop n ms) n k x (length-take-le n ms full) from)
        ∙ unrolled-behind hs (take n ms) (insert (drop n ms) (k - n) x) (length-take-le n ms full ∙ is)
        ∙ sym (insert-append_right (unrolled hs (take n ms)) (drop n ms) n k x front from) ∙ ap (λ us. insert us k x) (sym straight)

    pub remove-straight : (k : ℕ) → n ≤ k → unrolled hs (remove ms k) ≡ remove (unrolled hs ms) k
    remove-straight k from =
        ap (unrolled hs) (ap (λ us. remove us k) (sym (take-append-drop n ms)) ∙ remove-append_right (take n ms) (drop n ms) n k (length-take-le n ms full) from)
        ∙ unrolled-behind hs (take n ms) (remove (drop n ms) (k - n)) (length-take-le n ms full ∙ is)
        ∙ sym (remove-append_right (unrolled hs (take n ms)) (drop n ms) n k front from) ∙ ap (λ us. remove us k) (sym straight)

    -- a last group, turned or straight
    last-group : (h : ℕ) → length ms ≡ n + 64 → unrolled (hs ++ h ∷ []) ms ≡ unrolled hs (take n ms) ++ turned h (drop n ms)
    last-group h whole =
        ap (unrolled (hs ++ h ∷ [])) (sym (take-append-drop n ms) ∙ ap (λ us. take n ms ++ us) (sym (append-nil (drop n ms))))
        ∙ regrouped hs h [] (take n ms) (drop n ms) [] (length-take-le n ms full ∙ is) (omega (arith, length-drop n ms))
        ∙ ap (λ us. unrolled hs (take n ms) ++ us) (append-nil (turned h (drop n ms)))

    pub group-more : length ms ≡ n + 64 → unrolled (hs ++ 0 ∷ []) ms ≡ unrolled hs ms
    group-more whole = last-group 0 whole ∙ ap (λ us. unrolled hs (take n ms) ++ us) (append-nil (drop n ms)) ∙ sym straight

    pub group-less : (h : ℕ) → length ms ≡ n + 64 → unrolled hs (take n ms ++ turned h (drop n ms)) ≡ unrolled (hs ++ h ∷ []) ms
    group-less h whole = unrolled-behind hs (take n ms) (turned h (drop n ms)) (length-take-le n ms full ∙ is) ∙ sym (last-group h whole)

-- the last group is turned so that its first member comes first, and has none from then on
module _ {X : Type 0} (hs heads : List ℕ) (h : ℕ) (ms read new : List X) (m n : ℕ) (are : heads ≡ hs ++ h ∷ []) (n_is : n ≡ length heads) (m_is : m ≡ length ms) (full : m ≡ 64 * n)
    (same : read ≡ ms) (made : new ≡ take (length read - 64) read ++ turned h (drop (length read - 64) read)) where
  long : length ms ≡ 64 * length hs + 64
  long = omega (arith, ap length are, length_push hs h)

  written : take m (new ++ drop (length new) ms) ≡ take (64 * length hs) ms ++ turned h (drop (64 * length hs) ms)
  written = turned-last ms read new h (64 * length hs) m same made (omega (arith, long)) m_is

  turned-count : length (take m (new ++ drop (length new) ms)) ≡ length ms
  turned-count =
      ap length written
      ∙ (omega (
        arith,
        length-append (take (64 * length hs) ms) (turned h (drop (64 * length hs) ms)),
        turned-length h (drop (64 * length hs) ms),
        length-append (take (64 * length hs) ms) (drop (64 * length hs) ms),
        ap length (take-append-drop (64 * length hs) ms),
      ))

  straightened : unrolled hs (take m (new ++ drop (length new) ms)) ≡ unrolled heads ms
  straightened =
      ap (unrolled hs) written ∙ group-less hs ms (64 * length hs) refl (omega (arith, long)) h long ∙ ap (λ us. unrolled us ms) (sym are)

  module _ (k : ℕ) (last : m ≤ k + 64) where
    pub straightened-get : (x : X) → k < m → x ≡ get_or (take m (new ++ drop (length new) ms)) k x → slice_get (unrolled heads ms) k ≡ Some x
    straightened-get x within is =
        slice_get_read (unrolled heads ms) m k x (m_is ∙ sym (unrolled-length heads ms)) within
        (is ∙ sym (get-straight hs (take m (new ++ drop (length new) ms)) (64 * length hs) refl (omega (arith, turned-count, long)) k x (omega (arith, long)))
        ∙ ap (λ us. get_or us k x) straightened)

    pub straightened-remove : unrolled hs (remove (take m (new ++ drop (length new) ms)) k) ≡ remove (unrolled heads ms) k
    straightened-remove =
        remove-straight hs (take m (new ++ drop (length new) ms)) (64 * length hs) refl (omega (arith, turned-count, long)) k (omega (arith, long))
        ∙ ap (λ us. remove us k) straightened

-- ---- places

-- the group of a place: where it begins and ends, and the place in it
pub group-first : (k : ℕ) → k / 64 * 64 ≡ 64 * (k / 64)
group-first k = omega arith

pub group-end : (k : ℕ) → 64 * (k / 64) + 64 ≡ k / 64 * 64 + 64
group-end k = omega arith

pub group-from : (k : ℕ) → k / 64 * 64 ≤ k
group-from k = omega arith

pub group-to : (k : ℕ) → k < 64 * (k / 64) + 64
group-to k = omega arith

pub group-place : (k : ℕ) → k - k / 64 * 64 ≡ k % 64
group-place k = omega arith

-- a group that is full has a first member
pub group-full : (k items members heads : ℕ) → 64 * (k / 64) + 64 ≤ items → members ≡ items → heads ≡ members / 64 → k / 64 < heads
group-full k items members heads full same count = omega arith

pub groups-most : (members heads : ℕ) → heads ≡ members / 64 → 64 * heads ≤ members
groups-most members heads count = omega arith

pub groups-behind : (items members heads k : ℕ) → 64 * (items / 64) ≤ k → members ≡ items → heads ≡ members / 64 → 64 * heads ≤ k
groups-behind items members heads k behind same count = omega arith

-- the first member of each ring lies in it
pub head-small : (hs : List ℕ) (g : ℕ) → list_all (λ h. nat_lt h 64) hs ≡ true → g < length hs → get_or hs g 0 < 64
head-small [] g all within = absurd (omega arith)
head-small (h ∷ hs) zero all within = below h (and-left _ _ all)
  where
    below : (h : ℕ) → nat_lt h 64 ≡ true → h < 64
    below h less = grind (arith, nat_tests)
head-small (h ∷ hs) (suc g) all within = head-small hs g (and-right _ _ all) (omega arith)

pub heads-set : (hs : List ℕ) (g h : ℕ) → list_all (λ h. nat_lt h 64) hs ≡ true → h < 64 → list_all (λ h. nat_lt h 64) (set hs g h) ≡ true
heads-set hs g h all less = list_all-set (λ h. nat_lt h 64) hs g h (is_below h less) all
  where
    is_below : (h : ℕ) → h < 64 → nat_lt h 64 ≡ true
    is_below h less = grind (arith, nat_tests)

module _ {X : Type 0} (hs : List ℕ) (ms : List X) (count : length hs ≡ length ms / 64) (small : list_all (λ h. nat_lt h 64) hs ≡ true) (k : ℕ) (within : k < length ms) where
  abbrev spot : Bool → ℕ
  spot t = if t then 64 * (k / 64) + (get_or hs (k / 64) 0 + k % 64) % 64 else k

  grouped : nat_lt (k / 64) (length hs) ≡ true → k / 64 < length hs
  grouped less = ltb-true (k / 64) (length hs) less

  ungrouped : nat_lt (k / 64) (length hs) ≡ false → length hs ≤ k / 64
  ungrouped more = ltb-false (k / 64) (length hs) more

  -- a member lies among all
  pub place-within : place_of hs k < length ms
  place-within = by (nat_lt (k / 64) (length hs)) refl
    where
      by : (t : Bool) → nat_lt (k / 64) (length hs) ≡ t → spot t < length ms
      by true less = let there = grouped less in omega (arith, there, count, within)
      by false more = within

  -- what lies there
  pub place-get : (d : X) → get_or (unrolled hs ms) k d ≡ get_or ms (place_of hs k) d
  place-get d = by (nat_lt (k / 64) (length hs)) refl
    where
      by : (t : Bool) → nat_lt (k / 64) (length hs) ≡ t → get_or (unrolled hs ms) k d ≡ get_or ms (spot t) d
      by true less =
          let there = grouped less in
          get-in hs ms (k / 64) (64 * (k / 64)) (64 * (k / 64) + 64) there (omega (arith, count)) refl refl k (omega arith) (omega arith) (head-small hs (k / 64) small there) d
          ∙ ap (λ n. get_or ms (64 * (k / 64) + (get_or hs (k / 64) 0 + n) % 64) d) (omega arith)
      by false more = get-straight hs ms (64 * length hs) refl (omega (arith, count)) k d (omega (arith, ungrouped more))

  -- another member put there
  pub place-set : (x : X) → unrolled hs (set ms (place_of hs k) x) ≡ set (unrolled hs ms) k x
  place-set x = by (nat_lt (k / 64) (length hs)) refl
    where
      by : (t : Bool) → nat_lt (k / 64) (length hs) ≡ t → unrolled hs (set ms (spot t) x) ≡ set (unrolled hs ms) k x
      by true less =
          let there = grouped less in
          ap (λ n. unrolled hs (set ms (64 * (k / 64) + (get_or hs (k / 64) 0 + n) % 64) x)) (omega arith)
          ∙ set-in hs ms (k / 64) (64 * (k / 64)) (64 * (k / 64) + 64) there (omega (arith, count)) refl refl k (omega arith) (omega arith) (head-small hs (k / 64) small there) x
      by false more = set-straight hs ms (64 * length hs) refl (omega (arith, count)) k x (omega (arith, ungrouped more))
