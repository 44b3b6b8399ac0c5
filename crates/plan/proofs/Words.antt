-- Laws of words: the loop that compares, and a word before the LF that ends its line. Assumes nothing.
use Rattle.std.proofs.Common.{min}
use Rattle.std.proofs.lemmas.List.{drop_min}
use Rattle.std.specs.List.{starts_with}
use Prim.Native.Nat.{ℕ, ◌+◌, ◌-◌, ◌≤◌, ◌<◌}
use mathlib.Core.Path.{◌≡◌, refl, sym, ap, ◌∙◌}
use mathlib.Core.Bool.{Bool, true, false, ◌&&◌}
use mathlib.Core.List.{List, [], ◌∷◌, ◌++◌}
use native.Mathlib.Omega.{arith}
use borrow.Author.Tests.{eq-eqb, eqb-true}
use lib.Dec.{eqb}
use lib.ListN.{length, take, drop, length-append, length-drop}
use lib.Seq.{append_snoc, take-length}
use Rattle.basis.specs.Scan.{mem}
use Rattle.basis.proofs.Tests.{clash, held, and_first, and_second, eqb_swap}
use Rattle.text.specs.Scan.{has_at}
use Rattle.text.proofs.Bytes.{has-below, not-head, not-tail, mem-cut}
use Rattle.plan.specs.Lines.{begins, is_word}

-- ---- a word at a place, as the library compares
begins-starts : (w l : List ℕ) → starts_with eqb l w ≡ begins w l
unfolding begins
begins-starts [] l = refl
begins-starts (b ∷ w) [] = refl
begins-starts (b ∷ w) (c ∷ l) = ap (λ t. t && starts_with eqb l w) (eqb_swap b c) ∙ ap (λ t. eqb c b && t) (begins-starts w l)

pub starts-at : (s w : List ℕ) (at k : ℕ) (t : Bool) → k ≡ min at (length s) → t ≡ starts_with eqb (take (length s - k) (drop k s)) w
    → t ≡ begins w (drop at s)
starts-at s w at k t e u =
    let whole : take (length s - k) (drop k s) ≡ drop k s = ap (λ n. take n (drop k s)) (sym (length-drop k s)) ∙ take-length (drop k s) in
    u ∙ ap (λ l. starts_with eqb l w) (whole ∙ ap (λ n. drop n s) e ∙ drop_min at s) ∙ begins-starts w (drop at s)

pub has_in : (s : List ℕ) (p b : ℕ) (t : Bool) → t ≡ has_at s p b → t ≡ true → p < length s
has_in s p b t e n = has-below s p b (held t _ e n)

-- ---- what a list that begins with a word is
pub begins-split : (w l : List ℕ) → begins w l ≡ true → l ≡ w ++ drop (length w) l
unfolding begins
begins-split [] l h = refl
begins-split (b ∷ w) [] h = clash h refl
begins-split (b ∷ w) (c ∷ l) h =
    let e : c ≡ b = eqb-true c b (and_first (eqb c b) (begins w l) h) in
    let f : l ≡ w ++ drop (length w) l = begins-split w l (and_second (eqb c b) (begins w l) h) in
    cc

pub begins-long : (w l : List ℕ) → begins w l ≡ true → length w ≤ length l
begins-long w l h = omega (arith, simp length-append at (ap length (begins-split w l h)))

pub is_word_lem : (w l : List ℕ) → is_word w l ≡ true → l ≡ w
unfolding is_word
is_word_lem [] [] h = refl
is_word_lem [] (c ∷ l) h = clash h refl
is_word_lem (b ∷ w) [] h = clash h refl
is_word_lem (b ∷ w) (c ∷ l) h =
    let e : c ≡ b = eqb-true c b (and_first (eqb c b) (is_word w l) h) in
    let f : l ≡ w = is_word_lem w l (and_second (eqb c b) (is_word w l) h) in
    cc

-- ---- before the byte c that ends a line, which stands in no word
module _ (c : ℕ) where
  first-not : (b : ℕ) (w : List ℕ) → mem c (b ∷ w) ≡ false → eqb c b ≡ false
  first-not b w h = eqb_swap c b ∙ not-head c b w h

  pub begins-cut : (w bs r : List ℕ) → mem c w ≡ false → begins w (bs ++ c ∷ r) ≡ begins w bs
  unfolding begins
  begins-cut [] bs r h = refl
  begins-cut (b ∷ w) [] r h = rw (first-not b w h)
  begins-cut (b ∷ w) (d ∷ bs) r h = ap (λ t. eqb d b && t) (begins-cut w bs r (not-tail c b w h))

  pub begins-word : (w bs r : List ℕ) → mem c w ≡ false → mem c bs ≡ false → begins (w ++ (c ∷ [])) (bs ++ c ∷ r) ≡ is_word w bs
  unfolding begins is_word
  begins-word [] [] r h k = rw (eq-eqb c c refl)
  begins-word [] (d ∷ bs) r h k = rw (not-head c d bs k)
  begins-word (b ∷ w) [] r h k = rw (first-not b w h)
  begins-word (b ∷ w) (d ∷ bs) r h k = ap (λ t. eqb d b && t) (begins-word w bs r (not-tail c b w h) (not-tail c d bs k))

  pub begins-ended : (w l : List ℕ) → begins (w ++ (c ∷ [])) l ≡ true → mem c l ≡ true
  begins-ended w l h =
      let e : l ≡ w ++ c ∷ drop (length (w ++ (c ∷ []))) l = begins-split (w ++ (c ∷ [])) l h ∙ append_snoc w c _ in
      ap (mem c) e ∙ mem-cut c w _

-- a place where a word stands is in the file
pub word_at : (s : List ℕ) (at b : ℕ) (w : List ℕ) (t : Bool) → t ≡ begins (b ∷ w) (drop at s) → t ≡ true → at + length (b ∷ w) ≤ length s
word_at s at b w t e h = omega (arith, begins-long (b ∷ w) (drop at s) (sym e ∙ h), length-drop at s)
