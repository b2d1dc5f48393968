-- `validate_lists::walks::live_marked` meets its contract: the words of live bits are within their words of marks, or each slot is looked at.
use Rattle.std.proofs.Common.{rules}
use Rattle.std.proofs.iter.runs.Sources.{range_runs}
use Rattle.std.specs.Prelude.{ℕ, ◌+◌, ◌/◌, ◌%◌, ◌≤◌, ◌<◌, ◌≡◌, true, false, List, length, get_or}
use Rattle.plain.specs.Library.{sym, ap, ◌∙◌, arith, ltb-true, eq-eqb, eqb-true}
use Rattle.plain.specs.Lists.{all, from}
use Rattle.plain.proofs.Laws.Booleans.{by_test, true_false, same_truth}
use Rattle.plain.proofs.Laws.ListLaws.{all_of, member_below}
use Rattle.liveness.specs.Flags.{bit, live_bit, live_flags}
use Rattle.liveness.specs.Laws.Flags.{flag_at}
use Rattle.shape.proofs.Laws.Checking.{all_below, below_all}
use Rattle.validate_words.specs.Laws.Passing.{front_long, front_at}
use Rattle.validate_words.specs.Laws.Ranges.{at_item, if_some, meets}
use Rattle.validate_lists.specs.Walks.{Within, marked_if_live}
use Rattle.validate_lists.proofs.walks.live_marked.Goals as goal

-- where the words that hold the slots are within those of the other map, every live slot is marked
within_marked : (words seen : List ℕ) (slots : ℕ) → ((e : ℕ) → e < slots → Within (get_or words (e / 64) 0) (get_or seen (e / 64) 0))
    → true ≡ all (marked_if_live (live_flags words slots) (live_flags seen slots)) (from 0 slots)
unfolding marked_if_live live_bit
within_marked words seen slots within =
    sym (all_of (marked_if_live (live_flags words slots) (live_flags seen slots)) (from 0 slots)
    (λ e m. let l = ltb-true e slots (sym (member_below e slots) ∙ m) in
    by_test (live_bit words e)
    (λ q. rw (flag_at words slots e l, flag_at seen slots e l, q)
    (eq-eqb (bit (get_or seen (e / 64) 0) (e % 64)) 1 ((within e l).bits (e % 64) (eqb-true (bit (get_or words (e / 64) 0) (e % 64)) 1 q))))
    (λ q. rw (flag_at words slots e l, q))))

pub returns-then-words_within : goal.returns-then-words_within
returns-then-words_within c =
    let words = c.args.words.now in
    let seen = c.args.seen.now in
    let count = c.div_ceil-count.result in
    let long : count ≤ length words = omega (arith, c.requires.0) in
    let marks_long : count ≤ length seen = omega (arith, c.requires.1) in
    c.if-words_within.true ∙ within_marked _ _ _
    (λ e l. let low : e / 64 < count = omega arith in
    rw (front_at words count long (e / 64) low, front_at seen count marks_long (e / 64) low) at
    (c.words_within.ensures c.if-words_within.true (e / 64) (omega (arith, front_long words count long))))

-- each slot has been asked, or one has been found
pub returns-else-words_within : goal.returns-else-words_within
returns-else-words_within c =
    let slots = c.args.slots in
    let test = marked_if_live (live_flags c.args.words.now slots) (live_flags c.args.seen.now slots) in
    same_truth c.all.result (all test (from 0 slots))
    (λ h. below_all test slots
    (λ x k. let run = rw h at c.all.ensures.runs in
    let p = run.0 in
    let up = range_runs p p.seen in
    let first : p.from.start ≡ 0 = ap (λ r. r.start) run.1 in
    let end : p.from.end ≡ slots = ap (λ r. r.end) run.1 in
    let place : p.from.start + x ≡ x = omega (arith, first) in
    let there = rw place at (up.3 x (omega (arith, up.1 run.2.0, first, end))) in
    let answers = run.2.1 (λ a r f q. search rules) in
    at_item (λ y. test y ≡ true) (p.at x) x there (if_some (λ y. test y ≡ true) (p.at x) (answers x) (λ y q. search (rules, q.met.0)))))
    (λ h. by_test c.all.result (λ yes. yes)
    (λ no. let run = rw no at c.all.ensures.runs in
    let p = run.0 in
    let end : p.from.end ≡ slots = ap (λ r. r.end) run.1 in
    let found = run.2 (λ a r f q. search rules) in
    meets {Q = λ y. (y ≡ p.from.start + found.0) × (y < p.from.end)} (p.at found.0) found.2 ((range_runs p p.seen).2 found.0)
    (λ y q below. let low : y < slots = omega (arith, below.1, end) in
    let fails : test y ≡ false = search (rules, q.met.0) in
    true_false (all_below test slots h y low) fails)))
