mod EachClause
mod Shown
