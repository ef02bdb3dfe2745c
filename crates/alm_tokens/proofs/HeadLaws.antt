-- A line divided into tokens, byte by byte.
use Rattle.std.proofs.Common.{◌≡◌, ℕ, ◌+◌, ◌<◌, ◌≤◌, ◌==◌, true, false, cond, List, [], ◌∷◌, ◌++◌, length, drop, get_or, refl, sym, ap, ◌∙◌, drop-cons, add-one, subst}
use Rattle.std.specs.List.{All}
use Rattle.std.proofs.lemmas.List.Elements.{All-append, All-cons, All-nil}
use Rattle.std.proofs.Math.ListN.{drop_of_length-le}
use Rattle.alm_tokens.specs.declared.span.Span.{Span}
use Rattle.alm_tokens.specs.declared.head.TokenStep.TheVariants.{Label, Skip, Stop, Go}
use Rattle.alm_tokens.specs.Bytes.{is_blank}
use Rattle.alm_tokens.specs.Tokens.{span_at}
use Rattle.alm_tokens.specs.Heads.{IsLabelSpan, token_step, head_at, head_for_step, head_from, operand_end_from}

head_step :
    (marks : List Span) (from at : ℕ) (bytes : List ℕ) (i : ℕ) → i < length bytes
    → head_from marks from at (drop i bytes)
    ≡ head_for_step (token_step (get_or bytes i 0) (from == at)) (head_from (marks ++ span_at from at ∷ []) (at + 1) (at + 1) (drop (i + 1) bytes)) (head_from marks (at + 1) (at + 1) (drop (i + 1) bytes)) (head_at marks from at) (head_from marks from (at + 1) (drop (i + 1) bytes))
unfolding head_from
head_step marks from at bytes i within = rw (add-one i, drop-cons bytes i 0) refl

pub head_label :
    (marks : List Span) (from at : ℕ) (bytes : List ℕ) (i : ℕ) → i < length bytes
    → token_step (get_or bytes i 0) (from == at) ≡ Label
    → head_from marks from at (drop i bytes) ≡ head_from (marks ++ span_at from at ∷ []) (at + 1) (at + 1) (drop (i + 1) bytes)
head_label marks from at bytes i within e =
    head_step marks from at bytes i within ∙ ap (λ turn. head_for_step turn (head_from (marks ++ span_at from at ∷ []) (at + 1) (at + 1) (drop (i + 1) bytes)) (head_from marks (at + 1) (at + 1) (drop (i + 1) bytes)) (head_at marks from at) (head_from marks from (at + 1) (drop (i + 1) bytes))) e

pub head_skip :
    (marks : List Span) (from at : ℕ) (bytes : List ℕ) (i : ℕ) → i < length bytes
    → token_step (get_or bytes i 0) (from == at) ≡ Skip
    → head_from marks from at (drop i bytes) ≡ head_from marks (at + 1) (at + 1) (drop (i + 1) bytes)
head_skip marks from at bytes i within e =
    head_step marks from at bytes i within ∙ ap (λ turn. head_for_step turn (head_from (marks ++ span_at from at ∷ []) (at + 1) (at + 1) (drop (i + 1) bytes)) (head_from marks (at + 1) (at + 1) (drop (i + 1) bytes)) (head_at marks from at) (head_from marks from (at + 1) (drop (i + 1) bytes))) e

pub head_stop :
    (marks : List Span) (from at : ℕ) (bytes : List ℕ) (i : ℕ) → i < length bytes
    → token_step (get_or bytes i 0) (from == at) ≡ Stop
    → head_from marks from at (drop i bytes) ≡ head_at marks from at
head_stop marks from at bytes i within e =
    head_step marks from at bytes i within ∙ ap (λ turn. head_for_step turn (head_from (marks ++ span_at from at ∷ []) (at + 1) (at + 1) (drop (i + 1) bytes)) (head_from marks (at + 1) (at + 1) (drop (i + 1) bytes)) (head_at marks from at) (head_from marks from (at + 1) (drop (i + 1) bytes))) e

pub head_go :
    (marks : List Span) (from at : ℕ) (bytes : List ℕ) (i : ℕ) → i < length bytes
    → token_step (get_or bytes i 0) (from == at) ≡ Go
    → head_from marks from at (drop i bytes) ≡ head_from marks from (at + 1) (drop (i + 1) bytes)
head_go marks from at bytes i within e =
    head_step marks from at bytes i within ∙ ap (λ turn. head_for_step turn (head_from (marks ++ span_at from at ∷ []) (at + 1) (at + 1) (drop (i + 1) bytes)) (head_from marks (at + 1) (at + 1) (drop (i + 1) bytes)) (head_at marks from at) (head_from marks from (at + 1) (drop (i + 1) bytes))) e

pub head_end :
    (marks : List Span) (from at : ℕ) (bytes : List ℕ) (i : ℕ) → length bytes ≤ i
    → head_from marks from at (drop i bytes) ≡ head_at marks from at
unfolding head_from
head_end marks from at bytes i past = rw (drop_of_length-le bytes past) refl

-- one more label
pub marks_more :
    (count : ℕ) (marks new : List Span) (from at : ℕ) → All (IsLabelSpan count) marks → from ≤ at → at < count
    → new ≡ marks ++ span_at from at ∷ [] → All (IsLabelSpan count) new
marks_more count marks new from at all order within e =
    let mark : IsLabelSpan count (span_at from at) = record { ordered = order; inside = within } in
    subst (λ more. All (IsLabelSpan count) more) (sym e) (All-append (IsLabelSpan count) marks (span_at from at ∷ []) all (All-cons (IsLabelSpan count) (span_at from at) [] mark (All-nil (IsLabelSpan count))))

pub ruleset heads = (head_label, head_skip, head_stop, head_go, head_end)

pub end_comment :
    (end at : ℕ) (bytes : List ℕ) (i : ℕ) → i < length bytes → (get_or bytes i 0 == 34) ≡ true
    → operand_end_from end at (drop i bytes) ≡ end
unfolding operand_end_from
end_comment end at bytes i within e = rw (drop-cons bytes i 0) (rw e refl)

pub end_on :
    (end at : ℕ) (bytes : List ℕ) (i : ℕ) → i < length bytes → (get_or bytes i 0 == 34) ≡ false
    → operand_end_from end at (drop i bytes) ≡ operand_end_from (cond (is_blank (get_or bytes i 0)) end (at + 1)) (at + 1) (drop (i + 1) bytes)
unfolding operand_end_from
end_on end at bytes i within e = rw (add-one i, drop-cons bytes i 0) (rw e refl)

pub end_last : (end at : ℕ) (bytes : List ℕ) (i : ℕ) → length bytes ≤ i → operand_end_from end at (drop i bytes) ≡ end
unfolding operand_end_from
end_last end at bytes i past = rw (drop_of_length-le bytes past) refl

pub ruleset ends = (end_comment, end_on, end_last)
