-- What is left of generated lines, as lines are drawn and bytes are read.
use Rattle.std.proofs.Common.{◌≡◌, ◌∙◌, ℕ, suc, ◌+◌, ◌-◌, ◌<◌, ◌≤◌, List, [], ◌∷◌, ◌++◌, length, take, drop, refl, sym, ap, arith, append_assoc, length-append}
use Rattle.std.proofs.lemmas.List.{drop_all, length-take-le, take-append-le}
use Rattle.std.proofs.Math.Seq.{take-append-add}
use Rattle.ec_outside.proofs.Streams.{read_split}
use Rattle.ec_soak.specs.declared.generated_line.GeneratedLine.{GeneratedLine}
use Rattle.ec_soak.specs.Load.{drawn_line, drawn_lines, ended_text, load_of}

-- no line is left where all were drawn
pub drawn_lines-none : (lines made x : ℕ) → made ≡ lines → drawn_lines (lines - made) (made + 1) x ≡ []
unfolding drawn_lines
drawn_lines-none lines made x all = let none : lines - made ≡ 0 = omega arith in rw none refl

-- the next line is the first of those that are left
pub drawn_lines-next : (lines made x : ℕ) → made < lines
    → drawn_lines (lines - made) (made + 1) x
    ≡ (drawn_line (made + 1) x).0 ∷ drawn_lines (lines - (made + 1)) (made + 1 + 1) (drawn_line (made + 1) x).1
unfolding drawn_lines
drawn_lines-next lines made x more = let some : lines - made ≡ suc (lines - (made + 1)) = omega arith in rw some refl

-- what is left begins with the bytes that were copied
pub left-after : (text rest left copied back : List ℕ) (at count : ℕ) → left ≡ drop at text ++ rest → copied ≡ take count (drop at text) → count ≤ length (drop at text)
    → left ≡ take count (copied ++ back) ++ (drop (at + count) text ++ rest)
left-after text rest left copied back at count is copy within =
    is ∙ ap (λ all. all ++ rest) (read_split text (drop at text) copied back at count refl copy within)
    ∙ append_assoc (take count (copied ++ back)) (drop (at + count) text) rest

-- where the text of a line was read to its end, what is left begins with the text of the next line
pub left-next : (text fresh : List ℕ) (at : ℕ) (lines more : List GeneratedLine) (line : GeneratedLine)
    → at ≡ length text → lines ≡ line ∷ more → fresh ≡ ended_text line
    → drop at text ++ load_of lines ≡ drop 0 fresh ++ load_of more
left-next text fresh at lines more line end next is =
    ap (λ front. front ++ load_of lines) (drop_all at text (omega arith)) ∙ ap load_of next ∙ ap (λ front. front ++ load_of more) (sym is)

-- bytes that were read before, and more bytes that are read behind them
pub left-more : (left rest more whole part back : List ℕ) (count given : ℕ) → count ≤ length whole → given ≤ length part
    → left ≡ take count whole ++ rest → rest ≡ take given part ++ more
    → left ≡ take (count + given) (take count whole ++ (part ++ back)) ++ more
left-more left rest more whole part back count given within fits is next =
    let front : take (count + given) (take count whole ++ (part ++ back)) ≡ take count whole ++ take given part =
    ap (λ n. take (n + given) (take count whole ++ (part ++ back))) (sym (length-take-le count whole within))
    ∙ take-append-add (take count whole) (part ++ back) given
    ∙ ap (λ all. take count whole ++ all) (take-append-le given part back fits) in
    is ∙ ap (λ all. take count whole ++ all) next ∙ sym (append_assoc (take count whole) (take given part) more) ∙ ap (λ all. all ++ more) (sym front)

-- and they are within
pub within-more : (whole part back : List ℕ) (count given : ℕ) → count ≤ length whole → given ≤ length part
    → count + given ≤ length (take count whole ++ (part ++ back))
within-more whole part back count given within fits =
    omega (arith, length-append (take count whole) (part ++ back), length-append part back, length-take-le count whole within)
