-- Texts and tasks that the examples share.
use Rattle.std.specs.Prelude.{ℕ, List, [], codes, replicate, Option, Some}
use Rattle.tm_rv.specs.declared.instr.Set.TheVariants as set
use Rattle.tm_image.specs.Load.{Load}

-- an image's header, and a task of one word of text and of data
abbrev pub one_task : List ℕ
one_task = codes "tmi 1\ntask 0 basic 1 auto 0 1\ntext 0 0000006f\n"

-- a task with so many words of text
abbrev pub with_text : ℕ → Option Load
with_text number = Some (record { entry = 0; text = replicate number 0; set = set.Base; words = [] })

-- an image's header, and sixteen tasks without text
abbrev pub sixteen_tasks : List ℕ
sixteen_tasks = codes "tmi 1\ntask 0 basic 1 auto 0 1\ntask 1 basic 2 auto 0 1\ntask 2 basic 3 auto 0 1\ntask 3 basic 4 auto 0 1\ntask 4 basic 5 auto 0 1\ntask 5 basic 6 auto 0 1\ntask 6 basic 7 auto 0 1\ntask 7 basic 8 auto 0 1\ntask 8 basic 9 auto 0 1\ntask 9 basic 10 auto 0 1\ntask 10 basic 11 auto 0 1\ntask 11 basic 12 auto 0 1\ntask 12 basic 13 auto 0 1\ntask 13 basic 14 auto 0 1\ntask 14 basic 15 auto 0 1\ntask 15 basic 16 auto 0 1\n"

-- sixteen resources of task 0
abbrev pub sixteen_resources : List ℕ
sixteen_resources = codes "resource 0 0\nresource 1 0\nresource 2 0\nresource 3 0\nresource 4 0\nresource 5 0\nresource 6 0\nresource 7 0\nresource 8 0\nresource 9 0\nresource 10 0\nresource 11 0\nresource 12 0\nresource 13 0\nresource 14 0\nresource 15 0\n"

-- sixteen alarms that activate task 0
abbrev pub sixteen_alarms : List ℕ
sixteen_alarms = codes "alarm 0 activate 0\nalarm 1 activate 0\nalarm 2 activate 0\nalarm 3 activate 0\nalarm 4 activate 0\nalarm 5 activate 0\nalarm 6 activate 0\nalarm 7 activate 0\nalarm 8 activate 0\nalarm 9 activate 0\nalarm 10 activate 0\nalarm 11 activate 0\nalarm 12 activate 0\nalarm 13 activate 0\nalarm 14 activate 0\nalarm 15 activate 0\n"

-- sixteen boxes, the last with the most messages
abbrev pub sixteen_boxes : List ℕ
sixteen_boxes = codes "box 0 1\nbox 1 1\nbox 2 1\nbox 3 1\nbox 4 1\nbox 5 1\nbox 6 1\nbox 7 1\nbox 8 1\nbox 9 1\nbox 10 1\nbox 11 1\nbox 12 1\nbox 13 1\nbox 14 1\nbox 15 64\n"

-- each ring with the most items
abbrev pub greatest_rings : List ℕ
greatest_rings = codes "ring control 65536\nring data 65536\nring outputs 65536\nring checks 64\n"
