mod Drawn
mod ServerRows
mod ServerSteps
mod ServerOpens
mod ServerRefusals
