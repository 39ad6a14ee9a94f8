-- `fine_part` meets its contract: a case for each constant, and past them none.
use Rattle.number_exponential.specs.Exponential.{constant_lower}
use Rattle.number_exponential.specs.Units.{fine_parts, ten_trillionths}
use Rattle.number_exp_constants.proofs.Cases.{of, past}
use Rattle.number_exp_constants.proofs.fine_part.Goals as goal

pub returns-in-0 : goal.returns-in-0
unfolding constant_lower fine_parts
returns-in-0 c = of ten_trillionths c.in-0.is

pub returns-in-1 : goal.returns-in-1
unfolding constant_lower fine_parts
returns-in-1 c = of ten_trillionths c.in-1.is

pub returns-in-2 : goal.returns-in-2
unfolding constant_lower fine_parts
returns-in-2 c = of ten_trillionths c.in-2.is

pub returns-in-3 : goal.returns-in-3
unfolding constant_lower fine_parts
returns-in-3 c = of ten_trillionths c.in-3.is

pub returns-in-4 : goal.returns-in-4
unfolding constant_lower fine_parts
returns-in-4 c = of ten_trillionths c.in-4.is

pub returns-in-5 : goal.returns-in-5
unfolding constant_lower fine_parts
returns-in-5 c = of ten_trillionths c.in-5.is

pub returns-in-6 : goal.returns-in-6
unfolding constant_lower fine_parts
returns-in-6 c = of ten_trillionths c.in-6.is

pub returns-in-7 : goal.returns-in-7
unfolding constant_lower fine_parts
returns-in-7 c = of ten_trillionths c.in-7.is

pub returns-in-8 : goal.returns-in-8
unfolding constant_lower fine_parts
returns-in-8 c = of ten_trillionths c.in-8.is

pub returns-in-9 : goal.returns-in-9
unfolding constant_lower fine_parts
returns-in-9 c = of ten_trillionths c.in-9.is

pub returns-in-10 : goal.returns-in-10
unfolding constant_lower fine_parts
returns-in-10 c = of ten_trillionths c.in-10.is

pub returns-in-11 : goal.returns-in-11
unfolding constant_lower fine_parts
returns-in-11 c = of ten_trillionths c.in-11.is

pub returns-in-12 : goal.returns-in-12
unfolding constant_lower fine_parts
returns-in-12 c = of ten_trillionths c.in-12.is

pub returns-in-13 : goal.returns-in-13
unfolding constant_lower fine_parts
returns-in-13 c = of ten_trillionths c.in-13.is

pub returns-in-14 : goal.returns-in-14
unfolding constant_lower fine_parts
returns-in-14 c = of ten_trillionths c.in-14.is

pub returns-in-15 : goal.returns-in-15
unfolding constant_lower fine_parts
returns-in-15 c = of ten_trillionths c.in-15.is

pub returns-in-16 : goal.returns-in-16
unfolding constant_lower fine_parts
returns-in-16 c = of ten_trillionths c.in-16.is

pub returns-in-17 : goal.returns-in-17
unfolding constant_lower fine_parts
returns-in-17 c = of ten_trillionths c.in-17.is

pub returns-in-18 : goal.returns-in-18
unfolding constant_lower fine_parts
returns-in-18 c = of ten_trillionths c.in-18.is

pub returns-in-19 : goal.returns-in-19
unfolding constant_lower fine_parts
returns-in-19 c = of ten_trillionths c.in-19.is

pub returns-in-20 : goal.returns-in-20
unfolding constant_lower fine_parts
returns-in-20 c = of ten_trillionths c.in-20.is

pub returns-in-21 : goal.returns-in-21
unfolding constant_lower fine_parts
returns-in-21 c = of ten_trillionths c.in-21.is

pub returns-in-22 : goal.returns-in-22
unfolding constant_lower fine_parts
returns-in-22 c = of ten_trillionths c.in-22.is

pub returns-in-23 : goal.returns-in-23
unfolding constant_lower fine_parts
returns-in-23 c = of ten_trillionths c.in-23.is

pub returns-in-24 : goal.returns-in-24
unfolding constant_lower fine_parts
returns-in-24 c = of ten_trillionths c.in-24.is

pub returns-in-25 : goal.returns-in-25
unfolding constant_lower fine_parts
returns-in-25 c = of ten_trillionths c.in-25.is

pub returns-in-26 : goal.returns-in-26
unfolding constant_lower fine_parts
returns-in-26 c = of ten_trillionths c.in-26.is

pub returns-in-27 : goal.returns-in-27
unfolding constant_lower fine_parts
returns-in-27 c = of ten_trillionths c.in-27.is

pub returns-in-28 : goal.returns-in-28
unfolding constant_lower fine_parts
returns-in-28 c = of ten_trillionths c.in-28.is

pub returns-in-29 : goal.returns-in-29
unfolding constant_lower fine_parts
returns-in-29 c = of ten_trillionths c.in-29.is

pub returns-in-30 : goal.returns-in-30
unfolding constant_lower fine_parts
returns-in-30 c = of ten_trillionths c.in-30.is

pub returns-in-31 : goal.returns-in-31
unfolding constant_lower fine_parts
returns-in-31 c = of ten_trillionths c.in-31.is

pub returns-in-32 : goal.returns-in-32
unfolding constant_lower fine_parts
returns-in-32 c = of ten_trillionths c.in-32.is

pub returns-in-33 : goal.returns-in-33
unfolding constant_lower fine_parts
returns-in-33 c = of ten_trillionths c.in-33.is

pub returns-in-34 : goal.returns-in-34
unfolding constant_lower fine_parts
returns-in-34 c = of ten_trillionths c.in-34.is

pub returns-in-35 : goal.returns-in-35
unfolding constant_lower fine_parts
returns-in-35 c = of ten_trillionths c.in-35.is

pub returns-in-36 : goal.returns-in-36
unfolding constant_lower fine_parts
returns-in-36 c = of ten_trillionths c.in-36.is

pub returns-in-37 : goal.returns-in-37
unfolding constant_lower fine_parts
returns-in-37 c = of ten_trillionths c.in-37.is

pub returns-in-38 : goal.returns-in-38
unfolding constant_lower fine_parts
returns-in-38 c = of ten_trillionths c.in-38.is

pub returns-in-39 : goal.returns-in-39
unfolding constant_lower fine_parts
returns-in-39 c = of ten_trillionths c.in-39.is

pub returns-in-40 : goal.returns-in-40
unfolding constant_lower fine_parts
returns-in-40 c = of ten_trillionths c.in-40.is

pub returns-in-41 : goal.returns-in-41
unfolding constant_lower fine_parts
returns-in-41 c = of ten_trillionths c.in-41.is

pub returns-in-42 : goal.returns-in-42
unfolding constant_lower fine_parts
returns-in-42 c = of ten_trillionths c.in-42.is

pub returns-in-43 : goal.returns-in-43
unfolding constant_lower fine_parts
returns-in-43 c = of ten_trillionths c.in-43.is

pub returns-in-44 : goal.returns-in-44
unfolding constant_lower fine_parts
returns-in-44 c = of ten_trillionths c.in-44.is

pub returns-in-45 : goal.returns-in-45
unfolding constant_lower fine_parts
returns-in-45 c = of ten_trillionths c.in-45.is

pub returns-in-46 : goal.returns-in-46
unfolding constant_lower fine_parts
returns-in-46 c = of ten_trillionths c.in-46.is

pub returns-in-47 : goal.returns-in-47
unfolding constant_lower fine_parts
returns-in-47 c = of ten_trillionths c.in-47.is

pub returns-in-48 : goal.returns-in-48
unfolding constant_lower fine_parts
returns-in-48 c = of ten_trillionths c.in-48.is

pub returns-in-49 : goal.returns-in-49
unfolding constant_lower fine_parts
returns-in-49 c = of ten_trillionths c.in-49.is

pub returns-in-50 : goal.returns-in-50
unfolding constant_lower fine_parts
returns-in-50 c = of ten_trillionths c.in-50.is

pub returns-in-51 : goal.returns-in-51
unfolding constant_lower fine_parts
returns-in-51 c = of ten_trillionths c.in-51.is

pub returns-in-52 : goal.returns-in-52
unfolding constant_lower fine_parts
returns-in-52 c = of ten_trillionths c.in-52.is

pub returns-in-53 : goal.returns-in-53
unfolding constant_lower fine_parts
returns-in-53 c = of ten_trillionths c.in-53.is

pub returns-in-54 : goal.returns-in-54
unfolding constant_lower fine_parts
returns-in-54 c = of ten_trillionths c.in-54.is

pub returns-in-55 : goal.returns-in-55
unfolding constant_lower fine_parts
returns-in-55 c = of ten_trillionths c.in-55.is

pub returns-in-56 : goal.returns-in-56
unfolding constant_lower fine_parts
returns-in-56 c = of ten_trillionths c.in-56.is

pub returns-in-57 : goal.returns-in-57
unfolding constant_lower fine_parts
returns-in-57 c = of ten_trillionths c.in-57.is

pub returns-in-58 : goal.returns-in-58
unfolding constant_lower fine_parts
returns-in-58 c = of ten_trillionths c.in-58.is

pub returns-in-59 : goal.returns-in-59
unfolding constant_lower fine_parts
returns-in-59 c = of ten_trillionths c.in-59.is

pub returns-in_default : goal.returns-in_default
unfolding constant_lower fine_parts
returns-in_default c = past ten_trillionths _ c.in_default.in_default-own.rest
