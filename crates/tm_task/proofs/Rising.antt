-- Each next place of a task rises and is one of a task.
use Rattle.std.proofs.Common.{◌≡◌, refl, sym, subst, ap, ◌∙◌, ℕ, ◌+◌, ◌%◌, ◌^◌, ◌<◌, ◌≤◌, Bool, true, false, List, length, arith, Option, Some, None}
use Rattle.std.specs.Prelude.{◌==◌, ◌&&◌, ◌||◌, if◌then◌else◌, slice_get}
use Rattle.std.proofs.lemmas.List.{length-set}
use Rattle.std.proofs.lemmas.Bool.Decides.{nat_tests}
use Rattle.tm_marker.specs.Order.{IsBefore, marker_lt}
use Rattle.tm_marker.specs.declared.body.Body.{Body}
use Rattle.tm_marker.specs.declared.entries.DataEntry.{DataEntry}
use Rattle.tm_marker.specs.declared.marker.TheConstants.{EPOCH_LENGTH}
use Rattle.tm_rv.specs.Code.{Text}
use Rattle.tm_task.specs.Exec.{Exec, Faults, Calls, Goes, exec}
use Rattle.tm_task.specs.Follows.{Follows, IsOrderly}
use Rattle.tm_task.specs.Standing.{Standing, IsTask, marker_of, went, answered, is_full, is_end, begins_epoch, reply, restarted, resumed, next_epoch}
use Rattle.tm_task.specs.Place.{Place, next_place, place_by, after_call}
use Rattle.tm_task.specs.PlaceLaws.{standing_task}
use Rattle.tm_task.proofs.Following.{exec_follows}

-- what an instruction leaves
record Rises (entry : ℕ) (s t : Standing) : Type 0 where
  rises : IsBefore (marker_of s) (marker_of t)
  stays : IsTask (standing_task entry t)

-- markers by epoch, by count and by pc
epoch_rises : (e c p d q : ℕ) → marker_lt (record { epoch = e; count = c; pc = p }) (record { epoch = e + 1; count = d; pc = q }) ≡ true
epoch_rises e c p d q = grind (arith, nat_tests)

count_rises : (e c p q : ℕ) → marker_lt (record { epoch = e; count = c; pc = p }) (record { epoch = e; count = c + 1; pc = q }) ≡ true
count_rises e c p q = grind (arith, nat_tests)

pc_rises : (e c p q : ℕ) → p < q → marker_lt (record { epoch = e; count = c; pc = p }) (record { epoch = e; count = c; pc = q }) ≡ true
pc_rises e c p q h = grind (arith, nat_tests)

-- a standing of these parts is one of a task
stays_task : (entry : ℕ) (s t : Standing) → IsTask (standing_task entry s) → t.body.pc % 4 ≡ 0 → t.body.pc < 2 ^ 32 →
    length t.body.regs ≡ length s.body.regs → length t.body.words ≡ length s.body.words → t.count < EPOCH_LENGTH → IsTask (standing_task entry t)
stays_task entry s t task aligned within regs words count = record {
  entry = task.entry;
  words = (omega arith, omega arith);
  registers = regs ∙ task.registers;
  pc = (aligned, within);
  count = count;
}

-- both sides of a test
picked : (entry : ℕ) (s : Standing) (test : Bool) (t u : Standing) → (test ≡ true → Rises entry s t) → (test ≡ false → Rises entry s u) → Rises entry s (if test then t else u)
picked entry s true t u left right = left refl
picked entry s false t u left right = right refl

went_rises : (entry : ℕ) (s : Standing) (next : Body) (back : Bool) → IsTask (standing_task entry s) → Follows s.body next back → Rises entry s (went s next back)
went_rises entry s next false task f = record {
  rises = pc_rises s.epoch s.count s.body.pc next.pc (f.rises refl);
  stays = stays_task entry s (went s next false) task f.aligned f.within f.registers f.words task.count;
}
went_rises entry s next true task f =
    picked entry s (is_full s) (next_epoch s next) (record s { body = next; count = s.count + 1 })
    (λ _. record {
      rises = epoch_rises s.epoch s.count s.body.pc 0 next.pc;
      stays = stays_task entry s (next_epoch s next) task f.aligned f.within f.registers f.words (omega arith);
    })
    (λ partial. record {
      rises = count_rises s.epoch s.count s.body.pc next.pc;
      stays = stays_task entry s (record s { body = next; count = s.count + 1 }) task f.aligned f.within f.registers f.words (grind (arith, nat_tests, task.count));
    })

-- what an answer keeps of a body
record Replies (b c : Body) : Type 0 where
  aligned : c.pc % 4 ≡ 0
  within : c.pc < 2 ^ 32
  registers : length c.regs ≡ length b.regs
  words : length c.words ≡ length b.words

picked_reply : (b : Body) (test : Bool) (c d : Body) → Replies b c → Replies b d → Replies b (if test then c else d)
picked_reply b true c d left right = left
picked_reply b false c d left right = right

reply_keeps : (entry : ℕ) (s : Standing) (d : DataEntry) → IsTask (standing_task entry s) → s.body.pc + 4 < 2 ^ 32 → Replies s.body (reply entry s.body d)
reply_keeps entry s d task low =
    picked_reply s.body (is_end d) (restarted entry s.body) (resumed s.body d)
    (record { aligned = task.entry.0; within = omega arith; registers = sym task.registers; words = refl })
    (record { aligned = omega arith; within = omega arith; registers = simp length-set; words = refl })

-- an answer that begins no epoch is no end
no_end : (a b c z : Bool) → ((a || b || c) && z) ≡ false → ((a || b) && z) ≡ false
no_end true b c z h = h
no_end false true c z h = h
no_end false false c z h = refl

answered_rises : (entry : ℕ) (s : Standing) (d : DataEntry) → IsTask (standing_task entry s) → s.body.pc + 4 < 2 ^ 32 → Rises entry s (answered entry s d)
answered_rises entry s d task low =
    let keeps : Replies s.body (reply entry s.body d) = reply_keeps entry s d task low in
    picked entry s (begins_epoch d) (next_epoch s (reply entry s.body d)) (record s { body = reply entry s.body d })
    (λ _. record {
      rises = epoch_rises s.epoch s.count s.body.pc 0 (reply entry s.body d).pc;
      stays = stays_task entry s (next_epoch s (reply entry s.body d)) task keeps.aligned keeps.within keeps.registers keeps.words (omega arith);
    })
    (λ on. let goes : (reply entry s.body d).pc ≡ (s.body.pc + 4) % 2 ^ 32 = ap (λ (t : Bool). (if t then restarted entry s.body else resumed s.body d).pc) (no_end (d.service == 2) (d.service == 3) (d.service == 11) (d.status == 0) on) in record {
      rises = pc_rises s.epoch s.count s.body.pc (reply entry s.body d).pc (omega (arith, goes));
      stays = stays_task entry s (record s { body = reply entry s.body d }) task keeps.aligned keeps.within keeps.registers keeps.words task.count;
    })

-- the place that a test lets through
through : (test : Bool) (p q : Place) → (if test then Some p else None) ≡ Some q → p ≡ q
through true p q is = cc
through false p q is = cc

call_rises : (entry task : ℕ) (p q : Place) (service : ℕ) (d : Option DataEntry) → p.standing.body.pc + 4 < 2 ^ 32 →
    IsTask (standing_task entry p.standing) → after_call entry task p service d ≡ Some q → Rises entry p.standing q.standing
call_rises entry task p q service None low stands is = cc
call_rises entry task p q service (Some d) low stands is =
    subst (λ (r : Place). Rises entry p.standing r.standing) (through (d.service == service) _ q is) (answered_rises entry p.standing d stands low)

place_rises : (entry task : ℕ) (text : Text) (log : List DataEntry) (p q : Place) (e : Exec) → length text.words ≤ 16384 → IsOrderly text.words p.standing.body e →
    IsTask (standing_task entry p.standing) → place_by entry task log p e ≡ Some q → Rises entry p.standing q.standing
place_rises entry task text log p q (Faults cause) few orderly stands is = cc
place_rises entry task text log p q (Calls service) few orderly stands is = call_rises entry task p q service (slice_get log p.used) (omega arith) stands is
place_rises entry task text log p q (Goes next back) few orderly stands is =
    let same : record p { standing = went p.standing next back } ≡ q = cc in
    subst (λ (r : Place). Rises entry p.standing r.standing) same (went_rises entry p.standing next back stands orderly)

next_rises : (entry task : ℕ) (text : Text) (log : List DataEntry) (p q : Place) → length text.words ≤ 16384 →
    IsTask (standing_task entry p.standing) → next_place entry task text log p ≡ Some q → Rises entry p.standing q.standing
unfolding next_place
next_rises entry task text log p q few stands is =
    place_rises entry task text log p q (exec text p.standing.body) few (exec_follows text p.standing.body few stands.pc.0) stands is

pub places_rise_lem : (entry task : ℕ) (text : Text) (log : List DataEntry) (p q : Place) → length text.words ≤ 16384 →
    IsTask (standing_task entry p.standing) → next_place entry task text log p ≡ Some q → IsBefore (marker_of p.standing) (marker_of q.standing)
places_rise_lem entry task text log p q few stands is = (next_rises entry task text log p q few stands is).rises

pub places_stay_lem : (entry task : ℕ) (text : Text) (log : List DataEntry) (p q : Place) → length text.words ≤ 16384 →
    IsTask (standing_task entry p.standing) → next_place entry task text log p ≡ Some q → IsTask (standing_task entry q.standing)
places_stay_lem entry task text log p q few stands is = (next_rises entry task text log p q few stands is).stays
