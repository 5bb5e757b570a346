use Rattle.std.proofs.Common.{◌≡◌, List, [], ◌∷◌, ◌++◌, ℕ, length, map, ap, ap₂, sym, subst, ◌∙◌, arith, length-append}
use Rattle.std.proofs.lemmas.List.{length-map}
use Rattle.tm_irq.specs.Bench.{BenchLists, bench_lists}
use Rattle.tm_live.specs.Drive.{tape_since}
use Rattle.tm_run_dump.specs.RunDump.{dump_of_run}
use Rattle.tm_prog.specs.Gained.{gained}
use Rattle.tm_prog.specs.WatchCommand.{IsWatchMade, puts_under}
use Rattle.tm_prog.proofs.Watching.{names_long}
use Rattle.tm_prog.proofs.watch_run.WatchRun.made.Goals as goal

pub puts_of-requires : goal.puts_of-requires
puts_of-requires g c =
    let v = c.in_ok-versions.ensures.seen in
    let dumps = c.in_ok-dumps.dumps in
    let beside = c.in_ok-versions.field-0.beside.items in
    omega (
      arith,
      ap length c.requires.names,
      names_long c.args.asked.now.prefix c.args.asked.now.observers,
      v.number,
      ap length v.beside,
      length-map v.seen (dump_of_run c.args.self.image),
      ap length c.in_ok-dumps.ensures,
      length-append (map (λ bytes. bytes.items) beside) (c.in_ok-versions.field-0.last.items ∷ []),
      length-map dumps.items (λ bytes. bytes.items),
      dumps.ok,
    )

pub returns-clause-made : goal.returns-clause-made
returns-clause-made g c =
    let v = c.in_ok-versions.ensures.seen in
    let before = bench_lists c.args.bench.now in
    let dumps = c.in_ok-dumps.ensures ∙ ap₂ (λ (xs : List (List ℕ)) (x : List ℕ). xs ++ x ∷ []) v.beside v.last in
    subst
    (λ (after : BenchLists). IsWatchMade c.args.asked.now c.args.self.image (tape_since before after c.args.asked.now.len)
    (gained c.args.bench.now c.closed.new.bench).audit c.closed.result)
    (sym c.closed.ensures.lists) (record {
      seen = v.seen;
      each = v.number;
      beginnings = v.prefixes;
      puts = c.closed.ensures.puts ∙ c.in_ok-puts.ensures.puts ∙ ap₂ puts_under c.requires.names dumps;
      text = c.closed.ensures.text;
    })
