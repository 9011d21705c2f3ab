mod ParameterLists
mod ArgumentLists
mod CodeSteps
