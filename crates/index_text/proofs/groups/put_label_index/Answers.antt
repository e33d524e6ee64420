use Rattle.std.proofs.Common.{◌≡◌, ◌^◌, ◌<◌, ◌≤◌, ◌++◌, List, ℕ, length, map, take, ap, sym, subst, ◌∙◌, arith, rules}
use Rattle.std.specs.Prelude.{OnOk}
use Rattle.std.specs.List.{flat_map}
use Rattle.std.proofs.lemmas.List.{take_all, length-map}
use Rattle.hw_bytes.specs.Writing.{big_bytes}
use Rattle.index_text.specs.declared.ordering.LentLabel.{LentLabel}
use Rattle.index_text.specs.Gives.{nows}
use Rattle.index_text.specs.Index.{label_index_body}
use Rattle.index_text.specs.Layout.{framed}
use Rattle.index_text.specs.Sets.{rank, text_cmp}
use Rattle.index_text.proofs.GroupLoops.{length-label_index_body}
use Rattle.index_text.proofs.Ranks.{rank-le}
use Rattle.index_text.proofs.groups.put_label_index.Goals as goal

pub returns-in_err-four_bytes_of-clause-large : goal.returns-in_err-four_bytes_of-clause-large
returns-in_err-four_bytes_of-clause-large c e =
    let many : 2 ^ 32 ≤ length c.args.labels.now = search rules in
    let values : List (List ℕ) = map (λ (l : LentLabel). l.value.now) c.args.labels.now in
    omega (arith, many, length-label_index_body (nows c.args.table.now) (map (λ (l : LentLabel). l.value.now) c.args.labels.now), length-map c.args.labels.now (λ (l : LentLabel). l.value.now))

pub overflow_cast-rank : goal.overflow_cast-rank
overflow_cast-rank c =
    let low : c.rank_near-rank.result ≤ length (nows c.args.table.now) = subst (λ r. r ≤ length (nows c.args.table.now)) (sym c.rank_near-rank.ensures) (rank-le text_cmp _ (nows c.args.table.now)) in
    omega (arith, low, c.requires.small, length-map c.args.table.now (λ t. t.now))

body_is : (table values values' : List (List ℕ)) (n : ℕ) → values' ≡ values → n ≡ length values → big_bytes 4 1 ++ big_bytes 4 n ++ flat_map (λ v. big_bytes 4 (rank text_cmp v table)) values' ≡ label_index_body table values
unfolding label_index_body
body_is table values values' n e k = ap (λ vs. big_bytes 4 1 ++ big_bytes 4 n ++ flat_map (λ v. big_bytes 4 (rank text_cmp v table)) vs) e ∙ ap (λ m. big_bytes 4 1 ++ big_bytes 4 m ++ flat_map (λ v. big_bytes 4 (rank text_cmp v table)) values) k

pub returns-clause-small : goal.returns-clause-small
returns-clause-small c ok =
    let all : take c.loop-label.label-index c.args.labels.now ≡ c.args.labels.now = take_all c.loop-label.label-index c.args.labels.now (omega (arith, c.loop-label-test.false)) in
    let body : c.as_slice.result.now ≡ label_index_body (nows c.args.table.now) (map (λ (l : LentLabel). l.value.now) c.args.labels.now) =
    (c.as_slice.ensures.value ∙ c.loop-label.invariant
    ∙ body_is (nows c.args.table.now) (map (λ (l : LentLabel). l.value.now) c.args.labels.now) (map (λ (l : LentLabel). l.value.now) (take c.loop-label.label-index c.args.labels.now)) (length c.args.labels.now) (ap (map (λ (l : LentLabel). l.value.now)) all) (sym (length-map c.args.labels.now (λ (l : LentLabel). l.value.now)))) in
    subst (λ b. length b < 2 ^ 32) body (c.put_framed.ensures.small ok)

pub returns-clause-text : goal.returns-clause-text
unfolding label_index_body
returns-clause-text c =
    let all : take c.loop-label.label-index c.args.labels.now ≡ c.args.labels.now = take_all c.loop-label.label-index c.args.labels.now (omega (arith, c.loop-label-test.false)) in
    let count : length (map (λ (l : LentLabel). l.value.now) c.args.labels.now) ≡ length c.args.labels.now = length-map c.args.labels.now (λ (l : LentLabel). l.value.now) in
    let body : c.as_slice.result.now ≡ label_index_body (nows c.args.table.now) (map (λ (l : LentLabel). l.value.now) c.args.labels.now) =
    (c.as_slice.ensures.value ∙ c.loop-label.invariant
    ∙ ap (λ ls. big_bytes 4 1 ++ big_bytes 4 (length c.args.labels.now) ++ flat_map (λ v. big_bytes 4 (rank text_cmp v (nows c.args.table.now))) (map (λ (l : LentLabel). l.value.now) ls)) all
    ∙ ap (λ n. big_bytes 4 1 ++ big_bytes 4 n ++ flat_map (λ v. big_bytes 4 (rank text_cmp v (nows c.args.table.now))) (map (λ (l : LentLabel). l.value.now) c.args.labels.now)) (sym count)) in
    subst (λ b. OnOk c.put_framed.result (c.put_framed.new.out.items ≡ c.args.out.now.items ++ framed b)) body c.put_framed.ensures.text
