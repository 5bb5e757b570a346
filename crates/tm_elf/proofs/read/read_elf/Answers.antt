use Rattle.std.proofs.Common.{◌≡◌, List, Ok, ◌∙◌, ap, subst, sym}
use Rattle.std.proofs.lemmas.Result.{err_from_is_err_and}
use Rattle.tm_elf.specs.declared.header.ProgramHeader.{ProgramHeader}
use Rattle.tm_elf.specs.Elf.{first, unless, text_faults, memory_of, elf_of}
use Rattle.tm_elf.proofs.Order.{any_fault, told_header, told_memory}
use Rattle.tm_elf.proofs.Sound.{is_sound}
use Rattle.tm_elf.proofs.read.read_elf.Goals as goal
use Rattle.tm_elf.proofs.read.read_elf.Goals.{In_ok-loaded}

-- what is read is what the definition gives
read : (c : In_ok-loaded) → elf_of c.args.bytes.now c.args.least c.args.set ≡ Ok c.in_ok-loaded.field-0
read c =
    let bytes = c.args.bytes.now in
    let loads = c.in_ok-loads.ensures.loads in
    let tested = c.as_slice.ensures.value ∙ loads.1 in
    let right = subst (λ (those : List ProgramHeader). unless (first (text_faults bytes those)) (tt {0}) ≡ Ok (tt {0})) tested (sym c.in_ok-test_text.ensures) in
    let memory = c.in_ok-loaded.ensures ∙ ap (λ (those : List ProgramHeader). memory_of bytes those c.args.least c.args.set) (c.as_slice-2.ensures.value ∙ loads.1) in
    told_memory bytes c.args.least c.args.set (sym c.in_ok-test_header.ensures.fault) loads.0 right ∙ ap Ok (sym memory)

pub returns-clause-read : goal.returns-clause-read
returns-clause-read c = read c

pub returns-clause-sound : goal.returns-clause-sound
returns-clause-sound c =
    is_sound c.args.bytes.now c.args.least c.args.set c.in_ok-loaded.field-0 c.requires.some c.requires.few (read c)

pub returns-in_err-test_header-clause-read : goal.returns-in_err-test_header-clause-read
returns-in_err-test_header-clause-read c =
    let p = err_from_is_err_and c.from_residual.result c.from_residual.ensures.1 in
    let fault = c.in_err-test_header.field-0.0 in
    let told = told_header c.args.bytes.now c.args.least c.args.set fault (sym c.in_err-test_header.ensures.fault) in
    rw (p.1, p.2) (any_fault fault _ told)
