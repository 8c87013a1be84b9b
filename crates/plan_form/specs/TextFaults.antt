-- Which fault of a text it is. This project's own.
use Rattle.std.specs.Prelude.{ℕ, List}
use Rattle.line_text.specs.FirstBad.{IsFirstBad}
use Rattle.plan_form.specs.declared.fault.TextFault.{TextFault}
use Rattle.plan_form.specs.declared.fault.TextFault.TheVariants.{BadLine, Memory}
use Rattle.plan_form.specs.Texts.{IsPlanText}

-- a bad line is the first with which no text of plans begins; want of memory is free
abbrev pub IsFault : List ℕ → TextFault → Type 0
IsFault text (BadLine n) = IsFirstBad IsPlanText text n
IsFault text (Memory none) = Unit {0}

abbrev pub IsMemory : TextFault → Type 0
IsMemory (BadLine n) = ⊥
IsMemory (Memory none) = Unit {0}
