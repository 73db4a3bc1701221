-- Which bytes of a reader stand behind those that are kept.
-- Assumes nothing.
use mathlib.Core.Path.{◌≡◌, refl, sym, ap, subst, ◌∙◌}
use mathlib.Core.List.{List, [], ◌++◌, append_assoc}
use Prim.Native.Nat.{ℕ, ◌+◌, ◌≤◌}
use lib.ListN.{length, take, drop, drop_of_length-le}
use native.Mathlib.Omega.{arith}
use Rattle.std.specs.Prelude.{Option, Some, None}
use Rattle.std.specs.Io.KnownBytes.{Consumes, Keeps}
use Rattle.std.proofs.lemmas.List.{drop-take, drop_at, length-take, length-take-le, take-append-le}
use borrow.Rule.Slice.PartMut.{put_mid}

pub nothing_read : (old new : Option (List ℕ)) (bytes : List ℕ) → Keeps old new → bytes ≡ [] → Consumes old new bytes
nothing_read None new bytes k e = tt
nothing_read (Some xs) None bytes k e = absurd k
nothing_read (Some xs) (Some ys) bytes k e = sym k ∙ ap (λ (l : List ℕ). l ++ ys) (sym e)

module _ (old new : Option (List ℕ)) (kept : ℕ) (input buf : List ℕ) (fits : kept ≤ length input) where
  -- what a read puts behind them
  pub read_on : (got room : ℕ) → got ≤ length buf → Consumes old new (take got buf) → Consumes old new (drop kept (take (kept + got) (put_mid kept room input buf)))
  read_on got room few c =
      let rest : List ℕ = drop room (drop kept input) in
      let whole : drop kept (put_mid kept room input buf) ≡ buf ++ rest =
      drop_at (take kept input) (buf ++ rest) kept (length-take-le kept input fits) in
      let bytes : drop kept (take (kept + got) (put_mid kept room input buf)) ≡ take got buf =
      drop-take kept got (put_mid kept room input buf) ∙ ap (λ (l : List ℕ). take got l) whole ∙ take-append-le got buf rest few in
      subst (λ (l : List ℕ). Consumes old new l) (sym bytes) c

-- bytes that end where they begin
pub none_behind : (kept end : ℕ) (l : List ℕ) → end ≤ kept → drop kept (take end l) ≡ []
none_behind kept end l h = drop_of_length-le (take end l) (omega (arith, length-take end l))

pub still_there : (old : Option (List ℕ)) → Keeps old old
still_there None = tt
still_there (Some xs) = refl

pub consumes_append : (a b c : Option (List ℕ)) (xs ys : List ℕ) → Consumes a b xs → Consumes b c ys → Consumes a c (xs ++ ys)
consumes_append None b c xs ys h k = tt
consumes_append (Some u) None c xs ys h k = absurd h
consumes_append (Some u) (Some v) None xs ys h k = absurd k
consumes_append (Some u) (Some v) (Some w) xs ys h k = h ∙ ap (λ (l : List ℕ). xs ++ l) k ∙ sym (append_assoc xs ys w)
