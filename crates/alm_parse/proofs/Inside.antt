-- A label that is not a symbol begins at a byte of the text, and so does the first number out of
-- its range.
use Rattle.std.proofs.Common.{◌≡◌, ℕ, suc, ◌<◌, ◌≤◌, Bool, true, false, cond, List, [], ◌∷◌, length, Option, Some, None, arith, sym, subst}
use Rattle.std.specs.List.{find, All}
use Rattle.std.specs.Option.{option_or, IfSome}
use Rattle.alm_tokens.specs.declared.span.Span.{Span}
use Rattle.alm_tokens.specs.Heads.{IsLabelSpan}
use Rattle.alm_parse.specs.Lines.{is_no_symbol}

-- the first label that is not a symbol
marks_by : (p : Span → Bool) (b : Bool) (x y : Span) (rest : Option Span) (P : Span → Type 0) → P x → (rest ≡ Some y → P y) → cond b (Some x) rest ≡ Some y → P y
marks_by p true x y rest P h later f = let same : x ≡ y = cc in subst P same h
marks_by p false x y rest P h later f = later f

all_tail : (P : Span → Type 0) (x : Span) (xs : List Span) → All P (x ∷ xs) → All P xs
all_tail P x xs all k d within = all (suc k) d (omega arith)

found_mark : (p : Span → Bool) (P : Span → Type 0) (marks : List Span) (y : Span) → All P marks → find p marks ≡ Some y → P y
found_mark p P [] y all e = absurd (cc)
found_mark p P (x ∷ marks) y all e =
    marks_by p (p x) x y (find p marks) P (all 0 x (omega arith)) (λ f. found_mark p P marks y (all_tail P x marks all) f) e

pub mark_inside :
    (text : List ℕ) (marks : List Span) (y : Span)
    → All (IsLabelSpan (length text)) marks → find (is_no_symbol text) marks ≡ Some y → y.from < length text
mark_inside text marks y all e =
    let is : IsLabelSpan (length text) y = found_mark (is_no_symbol text) (IsLabelSpan (length text)) marks y all e in
    omega (arith, is.ordered, is.inside)

or_inside :
    (size : ℕ) (first second : Option ℕ)
    → IfSome first (λ place. place < size) → IfSome second (λ place. place < size)
    → IfSome (option_or first second) (λ place. place < size)
or_inside size None second one_arg two_args = two_args
or_inside size (Some place) second one_arg two_args = one_arg

-- the first of two indexes in the text
pub first_inside :
    (size : ℕ) (first second over : Option ℕ)
    → over ≡ option_or first second → IfSome first (λ place. place < size) → IfSome second (λ place. place < size)
    → IfSome over (λ place. place < size)
first_inside size first second over is one_arg two_args =
    subst (λ (o : Option ℕ). IfSome o (λ place. place < size)) (sym is) (or_inside size first second one_arg two_args)
