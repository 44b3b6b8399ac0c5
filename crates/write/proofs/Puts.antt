-- Laws of writing: one byte, one text after another, a text with room and without, and what a loop of writers keeps. Assumes nothing.
use Prim.Native.Nat.{ℕ, suc, ◌+◌, ◌-◌, ◌≤◌, ◌<◌}
use mathlib.Core.Path.{◌≡◌, refl, sym, ap, ◌∙◌}
use mathlib.Core.List.{List, [], ◌∷◌, ◌++◌, append-nil, append_assoc}
use native.Mathlib.Omega.{arith}
use native.Mathlib.Nat.{add-zero}
use native.Mathlib.Numerals.{add-one}
use borrow.Author.Tests.{lt-ltb, le-ltb, ltb-true, ltb-false}
use lib.Dec.{ltb}
use lib.ListN.{length, get_or, set, take, drop, length-set, take-append-drop, drop_of_length-le}
use lib.Seq.{take-suc-set, drop-set-lt, append_snoc, drop-cons, length-take-le, take-append_seam, drop_at}
use Rattle.basis.proofs.Tests.{bool_cases}
use Rattle.write.specs.Put.{Written, written, put_at}

-- ---- one byte, where its place is in the area and where it is past the end
module _ (area : List ℕ) (at byte : ℕ) (text : List ℕ) where
  pub put_step : at < length area → put_at area at (byte ∷ text) ≡ put_at (set area at byte) (at + 1) text
  unfolding put_at
  put_step h = rw (lt-ltb at (length area) h, put_at)

  pub put-stop : length area ≤ at → put_at area at (byte ∷ text) ≡ written area at
  unfolding put_at
  put-stop h = rw (le-ltb at (length area) h, put_at)

pub put-none : (area : List ℕ) (at : ℕ) → put_at area at [] ≡ written area at
unfolding put_at
put-none area at = refl

pub put-past : (area : List ℕ) (at : ℕ) (text : List ℕ) → length area ≤ at → put_at area at text ≡ written area at
put-past area at [] h = put-none area at
put-past area at (byte ∷ text) h = put-stop area at byte text h

-- the writer of one byte
pub byte-room : (area : List ℕ) (at byte : ℕ) → at < length area → written (set area at byte) (at + 1) ≡ put_at area at (byte ∷ [])
byte-room area at byte h = sym (put_step area at byte [] h ∙ put-none (set area at byte) (at + 1))

pub byte_past : (area : List ℕ) (at byte : ℕ) → length area ≤ at → written area at ≡ put_at area at (byte ∷ [])
byte_past area at byte h = sym (put-stop area at byte [] h)

-- ---- one text after another
abbrev pub and_then : Written → List ℕ → Written
and_then w text = put_at w.area w.next text

pub put-append : (area : List ℕ) (at : ℕ) (a b : List ℕ) → put_at area at (a ++ b) ≡ and_then (put_at area at a) b
put-append area at [] b = sym (ap (λ w. and_then w b) (put-none area at))
put-append area at (byte ∷ a) b =
    bool_cases (ltb at (length area)) (put_at area at (byte ∷ (a ++ b)) ≡ and_then (put_at area at (byte ∷ a)) b)
    (λ e. let h : at < length area = ltb-true at (length area) e in
    put_step area at byte (a ++ b) h ∙ put-append (set area at byte) (at + 1) a b
    ∙ sym (ap (λ w. and_then w b) (put_step area at byte a h)))
    (λ e. let h : length area ≤ at = ltb-false at (length area) e in
    put-stop area at byte (a ++ b) h ∙ sym (ap (λ w. and_then w b) (put-stop area at byte a h) ∙ put-past area at b h))

module _ (o : List ℕ) (at : ℕ) (a : List ℕ) {o' : List ℕ} {p : ℕ} (first : written o' p ≡ put_at o at a) where
  pub put_then : (b : List ℕ) {o'' : List ℕ} {r : ℕ} → written o'' r ≡ put_at o' p b → written o'' r ≡ put_at o at (a ++ b)
  put_then b second = second ∙ ap (λ w. and_then w b) first ∙ sym (put-append o at a b)

  pub put_as : (b : List ℕ) → a ≡ b → written o' p ≡ put_at o at b
  put_as b e = first ∙ ap (put_at o at) e

-- ---- the area's length stays, and a place in the area does not leave it
pub put-length : (area : List ℕ) (at : ℕ) (text : List ℕ) → length (put_at area at text).area ≡ length area
put-length area at [] = ap (λ w. length w.area) (put-none area at)
put-length area at (byte ∷ text) =
    bool_cases (ltb at (length area)) (length (put_at area at (byte ∷ text)).area ≡ length area)
    (λ e. ap (λ w. length w.area) (put_step area at byte text (ltb-true at (length area) e))
    ∙ put-length (set area at byte) (at + 1) text ∙ length-set area at byte)
    (λ e. ap (λ w. length w.area) (put-stop area at byte text (ltb-false at (length area) e)))

pub put-inside : (area : List ℕ) (at : ℕ) (text : List ℕ) → at ≤ length area → (put_at area at text).next ≤ length area
put-inside area at [] h = rw put-none h
put-inside area at (byte ∷ text) h =
    bool_cases (ltb at (length area)) ((put_at area at (byte ∷ text)).next ≤ length area)
    (λ e. let g : at < length area = ltb-true at (length area) e in
    let n : length (set area at byte) ≡ length area = length-set area at byte in
    rw (put_step area at byte text g) (omega (arith, put-inside (set area at byte) (at + 1) text (omega arith))))
    (λ e. rw (put-stop area at byte text (ltb-false at (length area) e)) h)

-- ---- a text that has room stands at its place, the rest is as it was, and the next place is past it
pub put-room : (area : List ℕ) (at : ℕ) (text : List ℕ) → at + length text ≤ length area
    → put_at area at text ≡ written (take at area ++ text ++ drop (at + length text) area) (at + length text)
put-room area at [] h = rw (put-none, add-zero, append-nil, take-append-drop)
put-room area at (byte ∷ text) h =
    let n : length (set area at byte) ≡ length area = length-set area at byte in
    let g : at < length area = omega arith in
    let e : at + 1 + length text ≡ at + suc (length text) = omega arith in
    let f : take (at + 1) (set area at byte) ≡ take at area ++ (byte ∷ []) = rw add-one (take-suc-set area at byte g) in
    let d : drop (at + suc (length text)) (set area at byte)
    ≡ drop (at + suc (length text)) area = drop-set-lt (at + suc (length text)) area at byte (omega arith) in
    put_step area at byte text g ∙ put-room (set area at byte) (at + 1) text (omega arith) ∙ rw (e, f, d, append_snoc)

-- so it is read where it was written
module _ (o : List ℕ) (at : ℕ) (text : List ℕ) {o' : List ℕ} {p : ℕ} (w : written o' p ≡ put_at o at text)
    (room : at + length text ≤ length o) where
  pub wrote-next : p ≡ at + length text
  wrote-next = ap (λ v. v.next) (w ∙ put-room o at text room)

  wrote-area : o' ≡ take at o ++ (text ++ drop (at + length text) o)
  wrote-area = ap (λ v. v.area) (w ∙ put-room o at text room) ∙ append_assoc (take at o) text (drop (at + length text) o)

  front : length (take at o) ≡ at
  front = length-take-le at o (omega arith)

  pub wrote_after : drop at o' ≡ text ++ drop (at + length text) o
  wrote_after = rw wrote-area (drop_at (take at o) (text ++ drop (at + length text) o) at front)

  pub wrote-text : take (p - at) (drop at o') ≡ text
  wrote-text =
      let e : p - at ≡ length text = omega (arith, wrote-next) in
      rw (e, wrote_after) (take-append_seam text (drop (at + length text) o))

-- a whole text from the front of the area on
pub wrote-whole : (o text : List ℕ) {o' : List ℕ} {p : ℕ} → written o' p ≡ put_at o 0 text → length text ≤ length o
    → (p ≡ length text) × (take p o' ≡ text)
wrote-whole o text {o'} {p} w h =
    let e : p ≡ length text = omega (arith, wrote-next o 0 text w (omega arith)) in
    let q : p - 0 ≡ p = omega arith in
    (e, rw q at (wrote-text o 0 text w (omega arith)))

-- ---- what a loop of writers keeps: the rest, written from here on, makes the whole
pub putting-more : {w : Written} (o : List ℕ) (p : ℕ) (a rest : List ℕ) {o' : List ℕ} {p' : ℕ}
    → put_at o p (a ++ rest) ≡ w → written o' p' ≡ put_at o p a → put_at o' p' rest ≡ w
putting-more o p a rest all step = ap (λ w. and_then w rest) step ∙ sym (put-append o p a rest) ∙ all

pub putting-end : {w : Written} (o : List ℕ) (p : ℕ) (rest : List ℕ) → put_at o p rest ≡ w → rest ≡ [] → written o p ≡ w
putting-end o p rest all e = sym (ap (put_at o p) e ∙ put-none o p) ∙ all

pub putting-length : (o₀ : List ℕ) (at : ℕ) (text : List ℕ) (o : List ℕ) (p : ℕ) (rest : List ℕ) → put_at o p rest ≡ put_at o₀ at text
    → length o ≡ length o₀
putting-length o₀ at text o p rest all = sym (put-length o p rest) ∙ ap (λ w. length w.area) all ∙ put-length o₀ at text

-- a loop over the bytes of a text
pub bytes-more : {w : Written} (text : List ℕ) (i : ℕ) (o : List ℕ) (p : ℕ) {o' : List ℕ} {p' : ℕ} → i < length text
    → put_at o p (drop i text) ≡ w → written o' p' ≡ put_at o p (get_or text i 0 ∷ []) → put_at o' p' (drop (i + 1) text) ≡ w
bytes-more text i o p h all step =
    putting-more o p (get_or text i 0 ∷ []) (drop (i + 1) text) (rw (drop-cons text i 0 h, ← add-one i) at all) step

pub bytes-end : {w : Written} (text : List ℕ) (i : ℕ) (o : List ℕ) (p : ℕ) → length text ≤ i → put_at o p (drop i text) ≡ w → written o p
    ≡ w
bytes-end text i o p h all = putting-end o p (drop i text) all (drop_of_length-le text h)
