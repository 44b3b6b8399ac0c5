-- Laws of a run of digits, and of a number that is cut down. Assumes nothing.
use Prim.Native.Nat.{ℕ, suc, ◌+◌, ◌≤◌, ◌<◌, max}
use borrow.Author.Tests.{leb-true, leb-false}
use lib.Dec.{leb}
use mathlib.Core.Path.{◌≡◌, refl, sym, ap, ◌∙◌}
use mathlib.Core.List.{List, [], ◌∷◌, ◌++◌, append-nil}
use mathlib.Core.Bool.{Bool, true, false}
use native.Mathlib.Omega.{arith}
use native.Mathlib.Numerals.{add-one}
use lib.ListN.{length, get_or, drop, drop_of_length-le}
use lib.Seq.{drop-cons}
use Rattle.basis.specs.Scan.{each}
use Rattle.basis.proofs.Tests.{bool_cases, and_first, and_second}
use Rattle.text.specs.Word.{within, is_digit, with_digit, run_len, run_val}
use Rattle.text.specs.Grammar.{number_of}
use Rattle.text.specs.Scan.{cut_number, run_at}
use Rattle.text.specs.declared.count.Scan.{Scan}
use Rattle.text.proofs.Bytes.{within-yes}

-- ---- one byte of a run
pub val-digit : (n b : ℕ) (bs : List ℕ) → is_digit b ≡ true → run_val n (b ∷ bs) ≡ run_val (with_digit n b) bs
val-digit n b bs e = rw (e, run_val)

pub val-stop : (n b : ℕ) (bs : List ℕ) → is_digit b ≡ false → run_val n (b ∷ bs) ≡ n
val-stop n b bs e = rw (e, run_val)

pub len-digit : (b : ℕ) (bs : List ℕ) → is_digit b ≡ true → run_len (b ∷ bs) ≡ 1 + run_len bs
len-digit b bs e = rw (e, run_len)

pub len-stop : (b : ℕ) (bs : List ℕ) → is_digit b ≡ false → run_len (b ∷ bs) ≡ 0
len-stop b bs e = rw (e, run_len)

pub len-le : (l : List ℕ) → run_len l ≤ length l
len-le [] = omega arith
len-le (b ∷ bs) = by (is_digit b) refl (len-le bs)
  where
    by : (t : Bool) → is_digit b ≡ t → run_len bs ≤ length bs → run_len (b ∷ bs) ≤ length (b ∷ bs)
    by true e h = rw (len-digit b bs e) (omega arith)
    by false e h = rw (len-stop b bs e) (omega arith)

-- ---- digits at the front, and after them a byte that is none, or nothing
pub front-len : (bs r : List ℕ) → each is_digit bs ≡ true → is_digit (get_or r 0 0) ≡ false → run_len (bs ++ r) ≡ length bs
unfolding each
front-len [] [] h k = refl
front-len [] (c ∷ r) h k = len-stop c r k
front-len (b ∷ bs) r h k =
    len-digit b (bs ++ r) (and_first (is_digit b) (each is_digit bs) h)
    ∙ omega (arith, front-len bs r (and_second (is_digit b) (each is_digit bs) h) k)

pub front-val : (n : ℕ) (bs r : List ℕ) → each is_digit bs ≡ true → is_digit (get_or r 0 0) ≡ false → run_val n (bs ++ r) ≡ number_of n bs
unfolding each
front-val n [] [] h k = refl
front-val n [] (c ∷ r) h k = val-stop n c r k
front-val n (b ∷ bs) r h k =
    val-digit n b (bs ++ r) (and_first (is_digit b) (each is_digit bs) h)
    ∙ front-val (with_digit n b) bs r (and_second (is_digit b) (each is_digit bs) h) k

pub all_val : (n : ℕ) (bs : List ℕ) → each is_digit bs ≡ true → run_val n bs ≡ number_of n bs
unfolding within
all_val n bs h = ap (run_val n) (sym (append-nil bs)) ∙ front-val n bs [] h refl

-- ---- a number that is cut down before a step is cut down to the same after it
cap-step : (n b : ℕ) → cut_number (with_digit (cut_number n) b) ≡ cut_number (with_digit n b)
cap-step n b = omega arith

cap-run-by : (n b : ℕ) (bs : List ℕ) (t : Bool) → is_digit b ≡ t
    → ((k : ℕ) → cut_number (run_val (cut_number k) bs) ≡ cut_number (run_val k bs))
    → cut_number (run_val (cut_number n) (b ∷ bs)) ≡ cut_number (run_val n (b ∷ bs))
cap-run-by n b bs true e ih =
    rw (val-digit (cut_number n) b bs e, val-digit n b bs e)
    (sym (ih (with_digit (cut_number n) b)) ∙ ap (λ (k : ℕ). cut_number (run_val k bs)) (cap-step n b) ∙ ih (with_digit n b))
cap-run-by n b bs false e ih = rw (val-stop (cut_number n) b bs e, val-stop n b bs e) (omega arith)

pub cap-run : (n : ℕ) (l : List ℕ) → cut_number (run_val (cut_number n) l) ≡ cut_number (run_val n l)
cap-run n [] = omega arith
cap-run n (b ∷ bs) = cap-run-by n b bs (is_digit b) refl (λ k. cap-run k bs)

-- ---- what the loop over a run of digits keeps: the number so far, n, is cut down, and the run from i, after n, is the run from `from`,
-- after `start`
pub record Running (s : List ℕ) (from start n i : ℕ) : Type 0 where
  pub small : n ≤ 9223372036854775809
  pub val : cut_number (run_val n (drop i s)) ≡ cut_number (run_val start (drop from s))
  pub len : i + run_len (drop i s) ≡ from + run_len (drop from s)

module _ (s : List ℕ) (from start : ℕ) where
  pub running-start : (n : ℕ) → n ≡ cut_number start → Running s from start n from
  running-start n e =
      record { small = omega arith; val = ap (λ (k : ℕ). cut_number (run_val k (drop from s))) e ∙ cap-run start (drop from s); len = refl }

  pub running_more : (n m i : ℕ) → Running s from start n i → i < length s → 48 ≤ get_or s i 0 → get_or s i 0 ≤ 57
      → m ≡ cut_number (with_digit n (get_or s i 0)) → Running s from start m (i + 1)
  running_more n m i r h lo hi q =
      let b : ℕ = get_or s i 0 in
      let e : is_digit b ≡ true = within-yes lo hi in
      let d : drop i s ≡ b ∷ drop (i + 1) s = rw add-one (drop-cons s i 0 h) in
      record {
        small = omega arith;
        val =
            ap (λ (k : ℕ). cut_number (run_val k (drop (i + 1) s))) q
            ∙ cap-run (with_digit n b) (drop (i + 1) s)
            ∙ ap cut_number (sym (val-digit n b (drop (i + 1) s) e) ∙ ap (run_val n) (sym d))
            ∙ r.val;
        len = omega (arith, ap run_len d ∙ len-digit b (drop (i + 1) s) e);
      }

  -- the run ends at i
  running-end : (n i : ℕ) → Running s from start n i → run_val n (drop i s) ≡ n → run_len (drop i s) ≡ 0
      → ◌≡◌ {A = Scan ℕ} (record { value = n; next = i }) (run_at s from start)
  unfolding run_at
  running-end n i r v l =
      let en : n ≡ cut_number (run_val start (drop from s)) = omega arith in
      let ei : i ≡ from + run_len (drop from s) = omega arith in
      λ k. record { value = en k; next = ei k }

  -- at a byte that is no digit
  pub running-stop : (n i : ℕ) → Running s from start n i → i < length s → is_digit (get_or s i 0) ≡ false
      → ◌≡◌ {A = Scan ℕ} (record { value = n; next = i }) (run_at s from start)
  running-stop n i r h e =
      let d : drop i s ≡ get_or s i 0 ∷ drop (suc i) s = drop-cons s i 0 h in
      running-end n i r (ap (run_val n) d ∙ val-stop n (get_or s i 0) (drop (suc i) s) e)
      (ap run_len d ∙ len-stop (get_or s i 0) (drop (suc i) s) e)

  -- and at the end
  pub running-out : (n i : ℕ) → Running s from start n i → length s ≤ i → (from ≤ length s → i ≤ length s) → (k : ℕ)
      → k ≡ max from (length s)
      → ◌≡◌ {A = Scan ℕ} (record { value = n; next = k }) (run_at s from start)
  running-out n i r h b k e =
      let d : drop i s ≡ [] = drop_of_length-le s h in
      let l : i ≡ from + run_len (drop from s) = omega (arith, r.len, ap run_len d) in
      let q : k ≡ i =
      bool_cases (leb from (length s)) _ (λ t. let m = leb-true from (length s) t in let o = b m in omega (arith, m, o))
      (λ t. let m : length s < from = leb-false from (length s) t in
      let o : length s ≤ from = omega arith in
      omega (arith, l, ap run_len (drop_of_length-le s o))) in
      ap (λ (j : ℕ). record { value = n; next = j }) q ∙ running-end n i r (ap (run_val n) d) (ap run_len d)
