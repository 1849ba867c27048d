-- Texts at the front of a buffer, one behind another.
use Prim.Native.Nat.{ℕ, ◌+◌, ◌≤◌, ◌<◌}
use mathlib.Core.List.{List, [], ◌∷◌, ◌++◌, append_assoc, append-nil}
use mathlib.Core.Path.{◌≡◌, refl, sym, ap, ◌∙◌}
use native.Mathlib.Numerals.{add-one}
use native.Mathlib.Omega.{arith}
use lib.ListN.{length, take, drop, get_or, set, length-append, length-drop, length-take, drop_of_length-le, take-append-drop}
use lib.Seq.{take_all, take-append_seam, set-append_seam, drop-drop, drop-cons}
use Rattle.std.proofs.lemmas.List.{take_more}
use Rattle.questions.specs.Buffers.{over}

pub length_snoc : (t : List ℕ) (x : ℕ) → length (t ++ (x ∷ [])) ≡ length t + 1
length_snoc t x = length-append t (x ∷ [])

pub length-over : (t b : List ℕ) → length t ≤ length b → length (over t b) ≡ length b
unfolding over
length-over t b h = simp (length-append, length-drop) (omega arith)

-- the buffer as it is, where nothing is written yet
pub over_nothing : (b : List ℕ) → b ≡ over [] b
unfolding over
over_nothing b = refl

-- the text stands in front
pub over_front : (t b : List ℕ) → take (length t) (over t b) ≡ t
unfolding over
over_front t b = take-append_seam t (drop (length t) b)

-- the text fills the buffer
pub over_all : (t b : List ℕ) → length b ≤ length t → over t b ≡ t
unfolding over
over_all t b h = ap (λ (l : List ℕ). t ++ l) (drop_of_length-le b {i = length t} h) ∙ append-nil t

-- one byte more behind the text t
pub over-set : (t b : List ℕ) (x : ℕ) → length t < length b → set (over t b) (length t) x ≡ over (t ++ (x ∷ [])) b
unfolding over
over-set t b x h =
    rw (drop-cons b (length t) 0 h)
    (set-append_seam t _ _ x ∙ sym (append_assoc t (x ∷ []) _ ∙ ap (λ (k : ℕ). t ++ (x ∷ drop k b)) (length_snoc t x ∙ add-one (length t))))

-- The first bytes of the text s were put over the buffer b, which is d by now.
module _ (s b d : List ℕ) (at : ℕ) (room : length s ≤ length b) (so_far : d ≡ over (take at s) b) where
  pub byte_room : at < length s → at < length d
  byte_room h = omega (arith, ap length so_far, length-over (take at s) b (simp length-take (omega arith)))

  pub byte_put : at < length s → set d at (get_or s at 0) ≡ over (take (at + 1) s) b
  byte_put h =
      let x = get_or s at 0 in
      let place : at ≡ length (take at s) = simp length-take (omega arith) in
      rw (so_far, take_more s at 0 h) (ap (λ (k : ℕ). set (over (take at s) b) k x) place ∙ over-set (take at s) b x (omega arith))

  pub bytes_put : length s ≤ at → d ≡ over s b
  bytes_put h = so_far ∙ ap (λ (t : List ℕ). over t b) (take_all at s h)

pub ruleset byte_steps = (over_nothing, byte_room, byte_put, bytes_put)

-- Texts go one behind another: t was put at a place, next is the place behind it, and r is left.
pub behind_next : (t r whole b d e : List ℕ) (at next : ℕ) → next ≡ at + length t → take next e ≡ take at d ++ t → drop next e ≡ drop next d
    → take at d ++ over (t ++ r) (drop at d) ≡ over whole b → take next e ++ over r (drop next e) ≡ over whole b
unfolding over
behind_next t r whole b d e at next place front rest h =
    let behind : drop (length r) (drop next e) ≡ drop (length (t ++ r)) (drop at d) =
    ap (drop (length r)) (rest ∙ ap (λ (k : ℕ). drop k d) place) ∙ drop-drop (length r) (at + length t) d
    ∙ ap (λ (k : ℕ). drop k d) (omega (arith, length-append t r)) ∙ sym (drop-drop (length (t ++ r)) at d) in
    ap (λ (l : List ℕ). l ++ (r ++ drop (length r) (drop next e))) front
    ∙ ap (λ (l : List ℕ). (take at d ++ t) ++ (r ++ l)) behind
    ∙ append_assoc (take at d) t _ ∙ ap (λ (l : List ℕ). take at d ++ l) (sym (append_assoc t r _)) ∙ h

-- nothing is left
pub behind_last : (r whole b d : List ℕ) (at : ℕ) → r ≡ [] → take at d ++ over r (drop at d) ≡ over whole b → d ≡ over whole b
unfolding over
behind_last r whole b d at e h = sym (take-append-drop at d) ∙ ap (λ (l : List ℕ). take at d ++ over l (drop at d)) (sym e) ∙ h

-- Of a text `whole` that goes over the buffer b, which is d by now, `left` is to be written from the place `at` on.
pub record Writing (left whole b : List ℕ) (at : ℕ) (d : List ℕ) : Type 0 where
  pub place : at + length left ≡ length whole
  pub room : length d ≡ length b
  pub text : take at d ++ over left (drop at d) ≡ over whole b

-- there is room for t, which comes next
pub writing_room : {left whole b d : List ℕ} {at : ℕ} → Writing left whole b at d → (t r : List ℕ) → left ≡ t ++ r → length whole ≤ length b
    → at + length t ≤ length d
writing_room w t r split room = omega (arith, w.place, w.room, ap length split, length-append t r)

-- t is written
pub writing_next : {left whole b d : List ℕ} {at : ℕ} → Writing left whole b at d → (t r e : List ℕ) (next : ℕ) → left ≡ t ++ r
    → next ≡ at + length t → take next e ≡ take at d ++ t → drop next e ≡ drop next d → length e ≡ length d → Writing r whole b next e
writing_next {whole} {b} {d} {at} w t r e next split place front rest room = record {
  place = omega (arith, w.place, place, ap length split, length-append t r);
  room = room ∙ w.room;
  text =
      behind_next t r whole b d e at next place front rest (ap (λ (l : List ℕ). take at d ++ over l (drop at d)) (sym split) ∙ w.text);
}

-- all is written
pub writing_done : {left whole b d : List ℕ} {at : ℕ} → Writing left whole b at d → left ≡ [] → (at ≡ length whole) × (d ≡ over whole b)
writing_done {left} {whole} {b} {d} {at} w none = (omega (arith, w.place, ap length none), behind_last left whole b d at none w.text)
