-- The words of lists, with one list more.
use Rattle.std.proofs.Common.{◌≡◌, ℕ, ℤ, ◌+◌, ◌<◌, List, [], ◌∷◌, ◌++◌, length, get_or, take, sym, ap, subst, ◌∙◌, append_assoc}
use Rattle.std.proofs.lemmas.List.{take_more}
use Rattle.ec_context.specs.declared.entry.Entry.{Entry}
use Rattle.ec_context.specs.Activity.{NumberCurrency}
use Rattle.ec_sweep.specs.Acting.{AddsWords, AreWordsOf, IsWordOf}

module _ (current : NumberCurrency) (t : ℤ) where
  AreWordsOf-push : (lists : List (List Entry)) (words : List ℕ) (list : List Entry) (word : ℕ) → AreWordsOf current t lists words → IsWordOf current t list word
      → AreWordsOf current t (lists ++ list ∷ []) (words ++ word ∷ [])
  AreWordsOf-push [] [] list word are is = (is, tt)
  AreWordsOf-push [] (other ∷ words) list word are is = absurd are
  AreWordsOf-push (first ∷ lists) [] list word are is = absurd are
  AreWordsOf-push (first ∷ lists) (other ∷ words) list word are is = (are.0, AreWordsOf-push lists words list word are.1 is)

  -- the word of the next list comes behind those of the first
  pub AddsWords-next : (lists : List (List Entry)) (i : ℕ) (list : List Entry) (word : ℕ) (before now after : List ℕ) → i < length lists → list ≡ get_or lists i list
      → AddsWords current t (take i lists) before now → IsWordOf current t list word → after ≡ now ++ word ∷ [] → AddsWords current t (take (i + 1) lists) before after
  AddsWords-next lists i list word before now after within here adds is pushed = record {
    words = adds.words ++ word ∷ [];
    are = pushed ∙ ap (λ ws. ws ++ word ∷ []) adds.are ∙ append_assoc before adds.words (word ∷ []);
    of_lists = subst (λ ls. AreWordsOf current t ls (adds.words ++ word ∷ []))
        (ap (λ l. take i lists ++ l ∷ []) here ∙ sym (take_more lists i list within))
        (AreWordsOf-push (take i lists) adds.words list word adds.of_lists is);
  }
