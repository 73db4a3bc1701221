-- What is listed, over any kind of run, count of its sent messages and way to extend it by an event: the runs of one event or more, at most so many,
-- whose events may each come next. They stand in order.
-- Assumes nothing.
use mathlib.Core.Path.{◌≡◌, refl, sym, ap, subst, ◌∙◌}
use mathlib.Core.Logic.{◌⊎◌, inl, inr}
use mathlib.Core.List.{List, [], ◌∷◌, ◌++◌}
use mathlib.Core.Option.{Option, none, some}
use Prim.Native.Nat.{ℕ, zero, suc, ◌≤◌, ◌<◌}
use native.Mathlib.Nat.{not-suc-le-zero}
use native.Mathlib.Omega.{arith}
use lib.ListN.{length}
use Rattle.basics.specs.Lists.{In}
use Rattle.enabled_runs.specs.declared.RunEvent.{RunEvent}
use Rattle.enabled_runs.specs.declared.RunEvent.TheVariants.{Proposes, Delivers}
use Rattle.enabled_runs.specs.Listing.{each_below, in_front, block, listing}
use Rattle.enabled_runs.specs.Order.{EventBefore, RunBefore, RunsInOrder}
use Rattle.enabled_runs.proofs.Lists.{in_left, in_right, in_either, in_up_to, from_up_to}

-- ---- runs with an event in front

abbrev InFront : RunEvent → List (List RunEvent) → List RunEvent → Type 0
InFront e runs x = (r : List RunEvent) × (x ≡ e ∷ r) × In r runs

in_in_front : (e : RunEvent) (r : List RunEvent) (runs : List (List RunEvent)) → In r runs → In (e ∷ r) (in_front e runs)
in_in_front e r [] h = absurd h
in_in_front e r (s ∷ runs) (inl p) = inl (ap (λ (l : List RunEvent). e ∷ l) p)
in_in_front e r (s ∷ runs) (inr h) = inr (in_in_front e r runs h)

from_in_front : (e : RunEvent) (x : List RunEvent) (runs : List (List RunEvent)) → In x (in_front e runs) → InFront e runs x
from_in_front e x [] h = absurd h
from_in_front e x (s ∷ runs) (inl p) = (s, p, inl refl)
from_in_front e x (s ∷ runs) (inr h) = let found = from_in_front e x runs h in (found.0, found.1, inr found.2)

-- ---- joined lists in order

AllBefore : List (List RunEvent) → List (List RunEvent) → Type 0
AllBefore xs ys = (x y : List RunEvent) → In x xs → In y ys → RunBefore x y

join_order : (xs ys : List (List RunEvent)) → RunsInOrder xs → RunsInOrder ys → AllBefore xs ys → RunsInOrder (xs ++ ys)
unfolding AllBefore
join_order [] ys a b apart = b
join_order (r ∷ xs) ys a b apart =
    (λ x h. go x (in_either x xs ys h), join_order xs ys a.1 b (λ x y h k. apart x y (inr h) k))
  where
    go : (x : List RunEvent) → In x xs ⊎ In x ys → RunBefore r x
    go x (inl h) = a.0 x h
    go x (inr h) = apart r x (inl refl) h

up_to_order : (n : ℕ) (f : ℕ → List (List RunEvent)) → ((k : ℕ) → k < n → RunsInOrder (f k)) → ((j k : ℕ) → j < k → k < n → AllBefore (f j) (f k))
    → RunsInOrder (each_below n f)
unfolding each_below AllBefore
up_to_order zero f each apart = tt
up_to_order (suc n) f each apart =
    join_order (each_below n f) (f n) (up_to_order n f (λ k h. each k (omega (arith, h))) (λ j k h l. apart j k h (omega (arith, l)))) (each n (omega arith))
    (λ x y h k. let found = from_up_to x n f h in apart found.0 n found.1 (omega arith) x y found.2 k)

in_front_order : (e : RunEvent) (runs : List (List RunEvent)) → RunsInOrder runs → RunsInOrder (in_front e runs)
in_front_order e [] h = tt
in_front_order e (r ∷ runs) h = (
  λ x i. let found = from_in_front e x runs i in subst (RunBefore (e ∷ r)) (sym found.1) (inr (refl, h.0 found.0 found.2)),
  in_front_order e runs h.1,
)

module _ {W : Type 0} (sent_count : W → ℕ) (extend : W → RunEvent → Option W) where
  -- ---- what may come next

  abbrev pub Offered : W → RunEvent → Type 0
  Offered w (Proposes member) = member < 3
  Offered w (Delivers member place) = (member < 3) × (place < sent_count w)

  abbrev pub Chain : W → List RunEvent → Type 0
  Chain w [] = Unit {0}
  Chain w (e ∷ es) = (v : W) × Offered w e × (extend w e ≡ some v) × Chain v es

  -- the run x is of the event's block: the event alone, or with a run of the rest behind it
  abbrev OfBlock : (W → List (List RunEvent)) → RunEvent → Option W → List RunEvent → Type 0
  OfBlock rest e t x = (v : W) × (t ≡ some v) × (es : List RunEvent) × (x ≡ e ∷ es) × ((es ≡ []) ⊎ In es (rest v))

  from_block : (rest : W → List (List RunEvent)) (e : RunEvent) (t : Option W) (x : List RunEvent) → In x (block sent_count extend rest e t) → OfBlock rest e t x
  unfolding block
  from_block rest e none x h = absurd h
  from_block rest e (some v) x (inl p) = (v, refl, [], p, inl refl)
  from_block rest e (some v) x (inr h) = let found = from_in_front e x (rest v) h in (v, refl, found.0, found.1, inr found.2)

  in_block : (rest : W → List (List RunEvent)) (e : RunEvent) (v : W) (es : List RunEvent) → (es ≡ []) ⊎ In es (rest v) → In (e ∷ es) (block sent_count extend rest e (some v))
  unfolding block
  in_block rest e v es (inl p) = inl (ap (λ (l : List RunEvent). e ∷ l) p)
  in_block rest e v es (inr h) = inr (in_in_front e es (rest v) h)

  -- ---- every run that is listed is one

  abbrev pub Short : ℕ → W → List RunEvent → Type 0
  Short n w x = (1 ≤ length x) × (length x ≤ n) × Chain w x

  block_short : (n : ℕ) → ((v : W) (es : List RunEvent) → In es (listing sent_count extend n v) → Short n v es) → (w : W) (e : RunEvent) → Offered w e → (v : W)
      → extend w e ≡ some v → (es x : List RunEvent) → x ≡ e ∷ es → (es ≡ []) ⊎ In es (listing sent_count extend n v) → Short (suc n) w x
  block_short n earlier w e offered v t es x p (inl q) =
      subst (Short (suc n) w) (sym (p ∙ ap (λ (l : List RunEvent). e ∷ l) q)) (omega arith, omega arith, (v, offered, t, tt))
  block_short n earlier w e offered v t es x p (inr i) =
      let k = earlier v es i in
      let most = k.1 in
      subst (Short (suc n) w) (sym p) (omega arith, omega (arith, most), (v, offered, t, k.2))

  -- the runs that begin with an event, and those that begin with a delivery to a member
  abbrev from : ℕ → W → RunEvent → List (List RunEvent)
  from n w e = block sent_count extend (listing sent_count extend n) e (extend w e)

  abbrev from_deliveries : ℕ → W → ℕ → List (List RunEvent)
  from_deliveries n w member = each_below (sent_count w) (λ place. from n w (Delivers member place))

  pub listed_short : (n : ℕ) (w : W) (x : List RunEvent) → In x (listing sent_count extend n w) → Short n w x
  unfolding listing
  listed_short zero w x h = absurd h
  listed_short (suc n) w x h = go (λ v es i. listed_short n v es i) (in_either x (each_below 3 (λ m. from n w (Proposes m))) (each_below 3 (from_deliveries n w)) h)
    where
      of_block : ((v : W) (es : List RunEvent) → In es (listing sent_count extend n v) → Short n v es) → (e : RunEvent) → Offered w e → In x (from n w e)
          → Short (suc n) w x
      of_block earlier e offered i =
          let b = from_block (listing sent_count extend n) e (extend w e) x i in
          block_short n earlier w e offered b.0 b.1 b.2 x b.3 b.4

      go : ((v : W) (es : List RunEvent) → In es (listing sent_count extend n v) → Short n v es)
          → In x (each_below 3 (λ m. from n w (Proposes m))) ⊎ In x (each_below 3 (from_deliveries n w)) → Short (suc n) w x
      go earlier (inl i) = let a = from_up_to x 3 (λ m. from n w (Proposes m)) i in of_block earlier (Proposes a.0) a.1 a.2
      go earlier (inr i) =
          let a = from_up_to x 3 (from_deliveries n w) i in
          let b = from_up_to x (sent_count w) (λ place. from n w (Delivers a.0 place)) a.2 in
          of_block earlier (Delivers a.0 b.0) (a.1, b.1) b.2

  -- ---- and none is missing

  in_offered : (n : ℕ) (w : W) (e : RunEvent) → Offered w e → (x : List RunEvent)
      → In x (block sent_count extend (listing sent_count extend n) e (extend w e)) → In x (listing sent_count extend (suc n) w)
  unfolding listing
  in_offered n w (Proposes member) h x i =
      in_left x (each_below 3 (λ m. from n w (Proposes m))) (each_below 3 (from_deliveries n w)) (in_up_to x 3 (λ m. from n w (Proposes m)) member h i)
  in_offered n w (Delivers member place) h x i =
      in_right x (each_below 3 (λ m. from n w (Proposes m))) (each_below 3 (from_deliveries n w))
      (in_up_to x 3 (from_deliveries n w) member h.0 (in_up_to x (sent_count w) (λ k. from n w (Delivers member k)) place h.1 i))

  tail_listed : (n : ℕ) (v : W) (es : List RunEvent) → (1 ≤ length es → In es (listing sent_count extend n v)) → (es ≡ []) ⊎ In es (listing sent_count extend n v)
  tail_listed n v [] h = inl refl
  tail_listed n v (f ∷ fs) h = inr (h (omega arith))

  pub short_listed : (n : ℕ) (w : W) (x : List RunEvent) → Short n w x → In x (listing sent_count extend n w)
  short_listed n w [] h = let least = h.0 in absurd (not-suc-le-zero least)
  short_listed zero w (e ∷ es) h = let most = h.1 in absurd (not-suc-le-zero most)
  short_listed (suc n) w (e ∷ es) h =
      let c = h.2 in
      let most = h.1 in
      in_offered n w e c.1 (e ∷ es)
      (subst (λ (t : Option W). In (e ∷ es) (block sent_count extend (listing sent_count extend n) e t)) (sym c.2)
      (in_block (listing sent_count extend n) e c.0 es
      (tail_listed n c.0 es (λ least. short_listed n c.0 es (least, omega (arith, most), c.3)))))

  -- ---- in order

  not_empty : (r : List RunEvent) → 1 ≤ length r → RunBefore [] r
  not_empty [] h = absurd (not-suc-le-zero h)
  not_empty (f ∷ fs) h = tt

  block_order : (rest : W → List (List RunEvent)) → ((v : W) → RunsInOrder (rest v)) → ((v : W) (r : List RunEvent) → In r (rest v) → 1 ≤ length r)
      → (e : RunEvent) (t : Option W) → RunsInOrder (block sent_count extend rest e t)
  unfolding block
  block_order rest order long e none = tt
  block_order rest order long e (some v) = (
    λ x i. let found = from_in_front e x (rest v) i in
        subst (RunBefore (e ∷ [])) (sym found.1) (inr (refl, not_empty found.0 (long v found.0 found.2))),
    in_front_order e (rest v) (order v),
  )

  block_apart : (rest : W → List (List RunEvent)) (e f : RunEvent) → EventBefore e f → (s t : Option W) (x y : List RunEvent)
      → In x (block sent_count extend rest e s) → In y (block sent_count extend rest f t) → RunBefore x y
  block_apart rest e f h s t x y i j =
      let a = from_block rest e s x i in
      let b = from_block rest f t y j in
      subst (λ (l : List RunEvent). RunBefore l y) (sym a.3) (subst (RunBefore (e ∷ a.2)) (sym b.3) (inl h))

  pub listing_order : (n : ℕ) (w : W) → RunsInOrder (listing sent_count extend n w)
  unfolding listing AllBefore
  listing_order zero w = tt
  listing_order (suc n) w = go (λ v. listing_order n v)
    where
      long : (v : W) (r : List RunEvent) → In r (listing sent_count extend n v) → 1 ≤ length r
      long v r i = (listed_short n v r i).0

      apart : (e f : RunEvent) → EventBefore e f → (x y : List RunEvent) → In x (from n w e) → In y (from n w f) → RunBefore x y
      apart e f h = block_apart (listing sent_count extend n) e f h (extend w e) (extend w f)

      go : ((v : W) → RunsInOrder (listing sent_count extend n v)) → RunsInOrder (each_below 3 (λ m. from n w (Proposes m)) ++ each_below 3 (from_deliveries n w))
      go order =
          join_order (each_below 3 (λ m. from n w (Proposes m))) (each_below 3 (from_deliveries n w))
          (up_to_order 3 (λ m. from n w (Proposes m)) (λ k h. block_order (listing sent_count extend n) order long (Proposes k) (extend w (Proposes k)))
          (λ j k h l. apart (Proposes j) (Proposes k) h))
          (up_to_order 3 (from_deliveries n w)
          (λ m h. up_to_order (sent_count w) (λ place. from n w (Delivers m place))
          (λ k l. block_order (listing sent_count extend n) order long (Delivers m k) (extend w (Delivers m k)))
          (λ j k l b. apart (Delivers m j) (Delivers m k) (inr (refl, l))))
          (λ m k h l x y i j.
          let a = from_up_to x (sent_count w) (λ place. from n w (Delivers m place)) i in
          let b = from_up_to y (sent_count w) (λ place. from n w (Delivers k place)) j in
          apart (Delivers m a.0) (Delivers k b.0) (inl h) x y a.2 b.2))
          (λ x y i j.
          let a = from_up_to x 3 (λ m. from n w (Proposes m)) i in
          let c = from_up_to y 3 (from_deliveries n w) j in
          let b = from_up_to y (sent_count w) (λ place. from n w (Delivers c.0 place)) c.2 in
          apart (Proposes a.0) (Delivers c.0 b.0) tt x y a.2 b.2)
