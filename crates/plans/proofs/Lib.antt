mod Endings
mod Scaled
mod LinesRead
mod Nearest
mod OneBad
mod PlanRead
